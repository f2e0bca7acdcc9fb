-- The result of a call that returns an output with its span.
use Rattle.std.specs.Prelude.{◌≡◌, ℕ, Result, Ok, Err, IfOk}
use Rattle.std.specs.declared.ops.Range.{Range}
use Rattle.streams.specs.Input.{Input}
use Rattle.winnow_core.specs.Span.{places}

-- The result without the span.
abbrev pub output_alone : {O E : Type 0} → Result (O × Range ℕ) E → Result O E
output_alone (Ok both) = Ok both.0
output_alone (Err e) = Err e

-- The range is from the offset of one input to the offset of the other, in units from the start.
abbrev pub IsBetween : {T O E : Type 0} → Input T → Result (O × Range ℕ) E → Input T → Type 0
IsBetween i result j = IfOk result (λ both. both.1 ≡ places i j)
