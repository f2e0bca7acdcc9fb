-- The parts of the errors of a whole parse.
use Rattle.std.specs.Prelude.{◌≡◌, ◌+◌, ℕ, List, Some}
use Rattle.streams.specs.Input.{Input, Remaining, back_at}
use Rattle.streams.specs.Kind.{Kind, incomplete}
use Rattle.streams.specs.Needed.{need_of}
use Rattle.streams.specs.declared.needed.Needed.{Needed}
use Rattle.stream_errors.specs.Form.{inner_kind_of}
use Rattle.stream_errors.specs.declared.fault.ParseError.{ParseError}
use Rattle.stream_errors.specs.declared.fault.ParseFault.{ParseFault}
use Rattle.stream_errors.specs.declared.fault.ParseFault.TheVariants.{Invalid, Incomplete}

-- the input, back at its start
abbrev pub refused_input : {I E : Type 0} → ParseError I E → I
refused_input e = e.input

-- the offset of the failure, in units
abbrev pub refused_offset : {I E : Type 0} → ParseError I E → ℕ
refused_offset e = e.offset

-- the error of the failing run, without its mode
abbrev pub refused_inner : {I E : Type 0} → ParseError I E → E
refused_inner e = e.inner

-- The error of `parse` for an error of kind `k` with the input at `at`, if the input started at
-- `start`.
abbrev pub IsFaultAt : {I T X : Type 0} → (I → Input T) → (List T → ℕ) → (X → Kind)
    → Remaining T → Input T → Kind → ParseFault I X Needed → Type 0
-- its offset in units, its inner kind, and the input back at its start
IsFaultAt view units inner_kind start at k (Invalid e) =
    (refused_offset e + units at.left.tokens ≡ units start.tokens)
    × (inner_kind_of k ≡ Some (inner_kind (refused_inner e)))
    × (view (refused_input e) ≡ back_at start at)
-- the need of an incomplete run
IsFaultAt view units inner_kind start at k (Incomplete needed) = k ≡ incomplete (need_of needed)
