-- The number of remaining units.
use Rattle.std.specs.Prelude.{◌≡◌, ◌≤◌, ◌<◌, ℕ, List}
use Rattle.std.proofs.Common.{ap, arith}
use Rattle.streams.specs.Input.{Input, IsEndOf}
use Rattle.streams.specs.Reading.{Reading}

-- the number of remaining units of an input, where `units` gives that of a list of tokens
abbrev pub units_left : {T : Type 0} → (List T → ℕ) → Input T → ℕ
units_left units i = units i.left.tokens

-- an end has no more units
pub ends_less : {T L : Type 0} (reading : Reading T L) (j i : Input T) → IsEndOf reading j i
    → units_left reading.units j ≤ units_left reading.units i
ends_less reading j i e =
    omega (
      arith,
      ap reading.units e.ends.tokens,
      reading.units_add e.ends.dropped j.left.tokens,
    )

-- ... and fewer, where not as many
pub ends_fewer : {T L : Type 0} (reading : Reading T L) (j i : Input T) → IsEndOf reading j i
    → (units_left reading.units j ≡ units_left reading.units i → ⊥)
    → units_left reading.units j < units_left reading.units i
ends_fewer reading j i e other = omega (arith, ends_less reading j i e, other)
