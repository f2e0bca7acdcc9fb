-- Which value is read, by the level and the character that is first.
use Rattle.std.specs.Prelude.{◌≡◌, ◌⊎◌, ℕ}
use Rattle.streams.specs.Kind.{Kind}
use Rattle.streams.specs.declared.needed.Needed.{Needed}
use Rattle.stream_errors.specs.Form.{marked_kind}
use Rattle.stream_errors.specs.Mode.{mode_kind}
use Rattle.stream_errors.specs.declared.empty.EmptyError.{EmptyError}
use Rattle.stream_errors.specs.declared.mode.ErrMode.{ErrMode}

-- the kind of an error
abbrev pub no_memory_kind : ErrMode EmptyError Needed → Kind
no_memory_kind = mode_kind (λ e. marked_kind e.is_memory)

-- a bracket or a brace that opens
abbrev pub IsOpening : ℕ → Type 0
IsOpening c = (c ≡ 91) ⊎ (c ≡ 123)
