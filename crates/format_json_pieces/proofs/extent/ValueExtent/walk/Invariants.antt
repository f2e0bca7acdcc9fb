use Rattle.std.proofs.Common.{length, ◌≡◌, ◌≤◌}
use Rattle.format_json_pieces.specs.Extents.{Walked}
use Rattle.format_json_pieces.proofs.extent.ValueExtent.walk.Given as goal

abbrev pub invariant-bytes : goal.invariant-bytes
invariant-bytes l =
    (length l.left ≤ length l.bytes) × (Walked l.fn.self l.fn.brackets l.fn.bytes l.fn.from
    → (length l.brackets ≡ length l.fn.brackets) × Walked l.self l.brackets l.bytes l.left)

abbrev pub decreases-bytes : goal.decreases-bytes
decreases-bytes l = length l.left
