-- Loop invariant: what the pieces so far denote is removed from the name, and the string ends from
-- here where it ends from its first quote.
use Rattle.std.proofs.Common.{length}
use Rattle.format_json_extents.proofs.Scanning.{SameMatches}
use Rattle.format_json_extents.proofs.Naming.{Compared}
use Rattle.format_json_extents.specs.Names.{name_text}
use Rattle.format_json_extents.specs.Strings.{IsStringTail}
use Rattle.format_json_extents.proofs.names.compare_tail.Given as goal

abbrev pub invariant-pieces : goal.invariant-pieces
invariant-pieces l = record {
  leads : SameMatches IsStringTail l.bytes l.rest;
  compared : Compared l.token (name_text l.token l.name) l.bytes l.rest l.same l.left;
}

abbrev pub decreases-pieces : goal.decreases-pieces
decreases-pieces l = length l.rest
