-- The kinds of the errors of controls.
use Rattle.std.specs.Prelude.{◌≡◌, ◌⊎◌}
use Rattle.std.proofs.Common.{refl, inl, inr}
use Rattle.streams.specs.Kind.{Kind, backtrack, memory}
use Rattle.stream_errors.specs.declared.control.ControlError.{ControlError}
use Rattle.stream_errors.specs.declared.control.ControlError.TheVariants.{NoMemory, Invalid}

-- `Invalid` is a backtrack
abbrev pub control_kind : ControlError → Kind
control_kind Invalid = backtrack
control_kind NoMemory = memory

-- there are no other kinds
pub control_kind-cases : (e : ControlError)
    → (control_kind e ≡ backtrack) ⊎ (control_kind e ≡ memory)
control_kind-cases Invalid = inl refl
control_kind-cases NoMemory = inr refl
