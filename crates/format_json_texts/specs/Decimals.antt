-- Integers times powers of ten.
use Rattle.std.specs.Prelude.{◌≡◌, ◌≢◌, ◌<◌, ◌≤◌, ◌⊎◌, ◌^◌, ◌%◌, ◌+ℤ◌, ◌*ℤ◌, ℕ}
use Rattle.std.specs.Prelude.{ℤ, pos}
use Rattle.std.specs.Prelude.{Bool, false, FitsSigned, MatchResult}
use Rattle.std.specs.Int.{w32}
use Rattle.std.specs.declared.result.Result.{Result}
use Rattle.format_json_texts.specs.NumberParts.{Number, coefficient, scale, with_sign}
use Rattle.format_json_texts.specs.declared.decimal.Decimal.{Decimal}
use Rattle.format_json_texts.specs.declared.decimal.DecimalError.{DecimalError}
use Rattle.format_json_texts.specs.declared.decimal.DecimalError.TheVariants as faults

-- a times ten to the power p is b times ten to the power q: of whichever powers of ten make up for
-- the difference of p and q, the integers are equal
abbrev pub AreEqual : ℤ → ℤ → ℤ → ℤ → Type 0
AreEqual a p b q =
    (i j : ℕ) → p +ℤ pos j ≡ q +ℤ pos i → a *ℤ pos (10 ^ i) ≡ b *ℤ pos (10 ^ j)

-- The digits do not end in zero; or they are zero, with no sign and no power.
abbrev pub IsShortest : Bool → ℕ → ℤ → Type 0
IsShortest negative digits exponent =
    (digits % 10 ≢ 0) ⊎ ((negative ≡ false) × (digits ≡ 0) × (exponent ≡ pos 0))

-- These digits, with the sign, times ten to this power are the number, and there are no fewer.
abbrev pub IsDecimal : Number → Bool → ℕ → ℤ → Type 0
IsDecimal n negative digits exponent =
    AreEqual (coefficient n) (scale n) (with_sign negative digits) exponent
    × IsShortest negative digits exponent

-- The digits are too many for 64 bits, or they are not, and the power does not fit 32 bits with a
-- sign.
abbrev pub Exceeds : DecimalError → ℕ → ℤ → Type 0
Exceeds faults.TooManyDigits digits exponent = 2 ^ 64 ≤ digits
Exceeds faults.ExponentOutOfRange digits exponent =
    (digits < 2 ^ 64) × (FitsSigned w32 exponent → ⊥)

-- The number's decimal, or why it does not fit.
abbrev pub Answers : Number → Result Decimal DecimalError → Type 0
Answers n result =
    MatchResult result (λ d. IsDecimal n d.negative d.digits d.exponent)
    (λ fault. (negative : Bool) × (digits : ℕ) × (exponent : ℤ)
    × IsDecimal n negative digits exponent × Exceeds fault digits exponent)
