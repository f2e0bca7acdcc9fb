use Rattle.std.proofs.Common.{◌≤◌, ◌-◌, length, take}
use Rattle.machines.specs.Languages.{AllOf}
use Rattle.machines.proofs.sets.ByteSet.run.Given as goal

abbrev pub invariant-bytes : goal.invariant-bytes
invariant-bytes g l =
    (l.n ≤ length l.bytes) × AllOf (g.Self.ByteSet.within l.self) (take l.n l.bytes)

abbrev pub decreases-bytes : goal.decreases-bytes
decreases-bytes g l = length l.bytes - l.n
