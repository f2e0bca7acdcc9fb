-- One of two, by the character that is first.
use Rattle.std.specs.Prelude.{◌≡◌, ◌⊎◌, ℕ, List}
use Rattle.std.proofs.Common.{inl, inr}
use Rattle.grammars.specs.Grammar.{Grammar, IsUnique}
use Rattle.stream_errors.specs.declared.empty.EmptyError.{EmptyError}
use Rattle.stream_errors.specs.declared.mode.ErrMode.{ErrMode}
use Rattle.streams.specs.declared.needed.Needed.{Needed}
use Rattle.stream_errors.specs.Form.{marked_kind}
use Rattle.stream_errors.specs.Mode.{mode_kind}
use Rattle.streams.specs.Kind.{Kind}
use Rattle.grammars.specs.Texts.{StartsWith}
use Rattle.grammars.specs.Texts.{NotFirst}
use Rattle.grammars.specs.Texts.Fronts.{begins_never}

-- `Led these g h`: `g` if the tokens start with a character of `these`, otherwise `h`.
unfoldable pub Led : {O : Type 0} → (ℕ → Type 0) → Grammar ℕ O → Grammar ℕ O → Grammar ℕ O
Led these g h tokens o rest =
    (StartsWith these tokens × g tokens o rest) ⊎ (NotFirst these tokens × h tokens o rest)

module _ {O : Type 0} {g h : Grammar ℕ O} (these : ℕ → Type 0) (first : IsUnique g)
    (second : IsUnique h) where
  led_one : (tokens : List ℕ) (o p : O) (rest other : List ℕ) → Led these g h tokens o rest
      → Led these g h tokens p other → rest ≡ other
  unfolding Led
  led_one tokens o p rest other (inl (b, x)) (inl (c, y)) = first.one tokens o p rest other x y
  led_one tokens o p rest other (inl (b, x)) (inr (n, y)) = begins_never these tokens b n
  led_one tokens o p rest other (inr (n, x)) (inl (b, y)) = begins_never these tokens b n
  led_one tokens o p rest other (inr (n, x)) (inr (m, y)) = second.one tokens o p rest other x y

  pub led_unique : IsUnique (Led these g h)
  unfolding Led
  led_unique = record {
    ends = λ tokens o rest it. elim it [
      | inl (b, x) ↦ first.ends tokens o rest x
      | inr (n, y) ↦ second.ends tokens o rest y
    ];
    one = led_one;
  }

-- the kind of an error
abbrev pub no_memory_kind : ErrMode EmptyError Needed → Kind
no_memory_kind = mode_kind (λ e. marked_kind e.is_memory)
