-- Floats, cut at their letter and at their point.
use Rattle.std.specs.List.{All}
use Rattle.std.specs.Prelude.{◌≤◌, ◌↔◌, ◌-◌, ℕ, true, List}
use Rattle.std.proofs.Common.{arith}
use Rattle.std.proofs.lemmas.Str.Parse.{digit_from_value}
use Rattle.format_toml.specs.Digits.{GoesOn, digits_back, digits_goes, goes_each, kept}
use Rattle.format_toml.specs.Floats.{AreDigits}

-- ---- which characters

pub are_goes : (tokens : List ℕ) → AreDigits tokens ↔ GoesOn 10 true tokens
unfolding AreDigits
are_goes tokens = (
  λ (ds, x). (digits_goes 10 (omega arith) ds tokens x).0,
  λ goes. (kept tokens, digits_back 10 (omega arith) tokens goes),
)

-- a property of digits and underscores is one of all the tokens
pub digits_each : (P : ℕ → Type 0) → ((c : ℕ) → (48 ≤ c) × (c ≤ 57) → P c) → P 95
    → (tokens : List ℕ) → AreDigits tokens → All P tokens
digits_each P digit under tokens x =
    goes_each P (λ c is. digit c (digit_from_value c is)) under true tokens ((are_goes tokens).0 x)
