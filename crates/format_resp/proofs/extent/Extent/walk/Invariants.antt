use Rattle.std.proofs.Common.{◌+◌, ◌≡◌, length}
use Rattle.format_resp.specs.Extents.{Passed}
use Rattle.format_resp.proofs.extent.Extent.walk.Given as goal

-- the rest follows the bytes passed
abbrev pub invariant-parts : goal.invariant-parts
invariant-parts l =
    (l.self.passed + length l.rest ≡ length l.bytes)
    × (Passed l.protocol l.fn.self l.bytes l.from → Passed l.protocol l.self l.bytes l.rest)

abbrev pub decreases-parts : goal.decreases-parts
decreases-parts l = length l.rest
