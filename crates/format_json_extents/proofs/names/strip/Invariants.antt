-- Loop invariant: the same bytes are removed from the text and from the name.
use Rattle.std.proofs.Common.{length}
use Rattle.format_json_extents.proofs.Naming.{Passed}
use Rattle.format_json_extents.proofs.names.strip.Given as goal

abbrev pub invariant-bytes : goal.invariant-bytes
invariant-bytes l = Passed l.token l.name l.text l.left l.wanted

abbrev pub decreases-bytes : goal.decreases-bytes
decreases-bytes l = length l.wanted
