-- Lemmas about the number of digits so far.
use Rattle.std.specs.Prelude.{◌≡◌, ◌<◌, ◌≤◌, ◌+◌, ◌*◌, ◌^◌, ℕ, List, length}
use Rattle.std.specs.Char.{digit_value}
use Rattle.std.specs.Str.Parse.{digits_value}
use Rattle.std.proofs.Common.{ap, ◌∙◌, arith, take, get_or}
use Rattle.std.proofs.Math.Seq.{take-length}
use Rattle.std.proofs.lemmas.Bool.Decides.{nat_tests}
use Rattle.std.proofs.lemmas.Int.Digits.{digits_value_more}
use Rattle.std.proofs.lemmas.Str.Parse.{digits_value-take-le}
use Rattle.parser_definitions.specs.Digits.{value_in, value_is}

-- a byte that is neither a digit nor a letter has the value 36
pub most_value : (c : ℕ) → digit_value c ≤ 36
most_value c = grind (arith, nat_tests)

-- the number of all digits
pub all_digits : (base : ℕ) (digits : List ℕ) (n : ℕ)
    → n ≡ digits_value base (take (length digits) digits) → n ≡ value_in base digits
all_digits base digits n e =
    e ∙ ap (digits_value base) (take-length digits) ∙ value_is base digits

-- where those so far and one more do not fit, no more do
pub past_size : (base : ℕ) (digits : List ℕ) (i n : ℕ) → 1 ≤ base → i < length digits
    → n ≡ digits_value base (take i digits)
    → (n * base + digit_value (get_or digits i 0) < 2 ^ 64 → ⊥)
    → value_in base digits < 2 ^ 64 → ⊥
past_size base digits i n least below so_far large small = large (omega (
  arith,
  small,
  ap (λ m. m * base) so_far,
  digits_value_more base digits i below,
  digits_value-take-le base digits (i + 1) least,
  value_is base digits,
))
