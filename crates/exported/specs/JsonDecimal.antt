-- Decimals of numbers of JSON, as callers see them.
use Rattle.std.specs.Prelude.{ℕ, ℤ, pos, Bool, false, List}
use Rattle.format_json_texts.specs.Decimals.{Exceeds, IsDecimal}
use Rattle.format_json_texts.specs.NumberParts.{IsWritten, Number}
use Rattle.format_json_texts.specs.declared.decimal.DecimalError.{DecimalError}
use Rattle.format_json_extents.specs.Number.{IsNumber}
use Rattle.format_json_extents.specs.Texts.{IsLongest}
use Rattle.exported.specs.declared.json.decimal.Decimal.{Decimal}

-- `StartsWithNumber bytes P`: `bytes` starts with a number, and the longest such number is in `P`.
abbrev pub StartsWithNumber : List ℕ → (Number → Type 0) → Type 0
StartsWithNumber bytes P =
    (text rest : List ℕ) × IsLongest IsNumber text bytes rest
    × ((n : Number) × IsWritten text n × P n)

-- `ShowsDecimal bytes out`: `out` is the decimal of the number.
abbrev pub ShowsDecimal : List ℕ → Decimal → Type 0
ShowsDecimal bytes out =
    StartsWithNumber bytes (λ n. IsDecimal n out.negative out.digits out.exponent)

-- The digits of the decimal do not fit 64 bits, or its power of ten does not fit 32.
abbrev pub ShowsNoDecimal : List ℕ → Type 0
ShowsNoDecimal bytes =
    StartsWithNumber bytes (λ n. (error : DecimalError) × (negative : Bool) × (digits : ℕ)
    × (exponent : ℤ) × IsDecimal n negative digits exponent × Exceeds error digits exponent)

-- zero
abbrev pub no_decimal : Decimal
no_decimal = record { digits = 0; exponent = pos 0; negative = false }
