-- The amount of input that is needed.
use Rattle.std.specs.Prelude.{◌==◌, ℕ, Option, Some, None, Result, Ok, Err}
use Rattle.std.specs.Prelude.{if◌then◌else◌}
use Rattle.std.specs.Int.NonZero.{non_zero_usize_get}
use Rattle.streams.specs.declared.needed.Needed.{Needed}
use Rattle.streams.specs.declared.needed.Needed.TheVariants.{Unknown, Size}

-- the units wanted, where they are known
abbrev pub need_of : Needed → Option ℕ
need_of Unknown = None
need_of (Size n) = Some (non_zero_usize_get n)

-- a need of so many units, or an unknown one where that is 0
abbrev pub need_of_count : ℕ → Option ℕ
need_of_count count = if count == 0 then None else Some count

-- a result, with its need as a number
abbrev pub by_need : {O : Type 0} → Result O Needed → Result O (Option ℕ)
by_need (Ok o) = Ok o
by_need (Err needed) = Err (need_of needed)
