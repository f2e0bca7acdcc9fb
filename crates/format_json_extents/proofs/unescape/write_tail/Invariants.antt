-- Loop invariant: the bytes that the pieces so far denote are written, and the string ends from
-- here where it ends from its first quote.
use Rattle.std.proofs.Common.{length}
use Rattle.format_json_extents.proofs.Scanning.{SameMatches}
use Rattle.format_json_extents.proofs.Unescaping.{Wrote}
use Rattle.format_json_extents.specs.Strings.{IsStringTail}
use Rattle.format_json_extents.proofs.unescape.write_tail.Given as goal

abbrev pub invariant-pieces : goal.invariant-pieces
invariant-pieces l = record {
  leads : SameMatches IsStringTail l.bytes l.rest;
  wrote : Wrote l.bytes l.rest l.initial.buffer l.buffer l.count;
}

abbrev pub decreases-pieces : goal.decreases-pieces
decreases-pieces l = length l.rest
