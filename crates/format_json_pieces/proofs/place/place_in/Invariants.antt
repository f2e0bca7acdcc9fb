use Rattle.std.proofs.Common.{length}
use Rattle.format_json_pieces.proofs.Placed.{Walked}
use Rattle.format_json_pieces.proofs.place.place_in.Given as goal

abbrev pub invariant-bytes : goal.invariant-bytes
invariant-bytes g l = Walked l.level l.fn.outer l.bytes l.left l.mode l.brackets.items

abbrev pub decreases-bytes : goal.decreases-bytes
decreases-bytes g l = length l.left
