-- Lemmas about the decimal of a number.
use Rattle.std.proofs.Common.{FitsSigned, ℤ, ℕ, Bool, subst, sym}
use Rattle.std.specs.Int.{w32}
use Rattle.std.proofs.lemmas.Int.{to_z-of_z}
use mir.Val.{of_z, to_z}
use Rattle.format_json_texts.specs.Decimals.{IsDecimal}
use Rattle.format_json_texts.specs.NumberParts.{Number}

pub decimal_shown : (n : Number) (negative : Bool) (digits : ℕ) (exponent : ℤ)
    → FitsSigned w32 exponent → IsDecimal n negative digits exponent
    → IsDecimal n negative digits (to_z w32 (of_z w32 exponent))
decimal_shown n negative digits exponent fits is =
    subst (λ e. IsDecimal n negative digits e) (sym (to_z-of_z w32 exponent fits)) is
