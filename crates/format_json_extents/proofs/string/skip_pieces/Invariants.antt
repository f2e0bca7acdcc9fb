-- Loop invariant: the string ends from here where it ends from its first quote.
use Rattle.std.proofs.Common.{length}
use Rattle.format_json_extents.proofs.Scanning.{SameMatches}
use Rattle.format_json_extents.specs.Strings.{IsStringTail}
use Rattle.format_json_extents.proofs.string.skip_pieces.Given as goal

abbrev pub invariant-pieces : goal.invariant-pieces
invariant-pieces l = SameMatches IsStringTail l.bytes l.rest

abbrev pub decreases-pieces : goal.decreases-pieces
decreases-pieces l = length l.rest
