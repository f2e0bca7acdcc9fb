-- The digits of numerals in radix 10 and 16.
use Rattle.std.specs.Prelude.{◌+◌, ◌-◌, ℕ, Bool, true, false, ◌&&◌, ◌||◌, leb}
use Rattle.std.proofs.Common.{refl, arith}
use Rattle.machines.specs.Digits.{AreDigits, DigitSet}

abbrev pub decimal : DigitSet
decimal = record { radix = 10; has = λ b. leb 48 b && leb b 57; value = λ b. b - 48 }

pub are_decimal : AreDigits decimal
are_decimal = record { two = omega arith; zero_digit = 48; is_digit = refl; is_zero = refl }

abbrev pub small_letter : ℕ → Bool
small_letter b = leb 97 b && leb b 102

abbrev pub large_letter : ℕ → Bool
large_letter b = leb 65 b && leb b 70

-- the value of a digit: of `0` to `9`, of `A` to `F`, or of `a` to `f`
abbrev pub value_of : Bool → Bool → ℕ → ℕ
value_of true small b = b - 48
value_of false true b = b - 97 + 10
value_of false false b = b - 65 + 10

abbrev pub hexadecimal : DigitSet
hexadecimal = record {
  radix = 16;
  has = λ b. (leb 48 b && leb b 57) || (small_letter b || large_letter b);
  value = λ b. value_of (leb b 57) (leb 97 b) b;
}

pub are_hexadecimal : AreDigits hexadecimal
are_hexadecimal = record { two = omega arith; zero_digit = 48; is_digit = refl; is_zero = refl }
