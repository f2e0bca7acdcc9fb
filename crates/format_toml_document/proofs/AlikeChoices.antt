-- Choices whose outputs for the same tokens are equivalent.
use Rattle.std.specs.Prelude.{ℕ, List}
use Rattle.std.proofs.Common.{inl, inr}
use Rattle.format_toml.specs.Led.{Led}
use Rattle.grammars.specs.Agreed.{Agrees}
use Rattle.grammars.specs.Grammar.{Grammar}
use Rattle.grammars.specs.Texts.Fronts.{begins_never}

module _ {O : Type 0} {alike : O → O → Type 0} where
  pub led_agrees : (these : ℕ → Type 0) {g h : Grammar ℕ O} → Agrees alike g → Agrees alike h
      → Agrees alike (Led these g h)
  unfolding Led
  led_agrees these {g} {h} first second = record { one = told }
    where
      told : (tokens : List ℕ) (o p : O) (rest other : List ℕ) → Led these g h tokens o rest
          → Led these g h tokens p other → alike o p
      told tokens o p rest other (inl (b, x)) (inl (c, y)) = first.one tokens o p rest other x y
      told tokens o p rest other (inl (b, x)) (inr (n, y)) = begins_never these tokens b n
      told tokens o p rest other (inr (n, x)) (inl (b, y)) = begins_never these tokens b n
      told tokens o p rest other (inr (n, x)) (inr (m, y)) =
          second.one tokens o p rest other x y
