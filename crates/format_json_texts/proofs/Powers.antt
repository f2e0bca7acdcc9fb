-- The powers of ten that exponents denote.
use Rattle.std.proofs.Common.{◌≡◌, ◌∙◌, ◌<◌, ◌⊎◌, ℕ, zero, suc, ℤ, Bool, false, cond, drop}
use Rattle.std.proofs.Common.{List, [], ◌∷◌, ◌++◌, ap, arith, inl, inr, length, subst, sym}
use Rattle.std.proofs.lemmas.Bool.{ne_eqb}
use Rattle.std.proofs.lemmas.Str.{IsUtf8-from_ascii, digit_value_digit}
use Rattle.std.specs.List.{AllByRecursion}
use Rattle.std.specs.Str.{IsAscii, IsUtf8}
use Rattle.std.specs.Prelude.{◌==◌}
use Rattle.std.specs.Str.Parse.{AllDigits, IsNumeral, ParsesSigned, signed_digits_value}
use Rattle.std.specs.Str.Parse.{without_leading_sign}
use Rattle.std.specs.Int.{w128}
use Rattle.std.specs.Option.{SomeIff}
use Rattle.std.specs.Result.{result_ok}
use Rattle.std.specs.Prelude.{Err, FitsSigned, Ok, Option}
use Rattle.std.specs.declared.result.Result.{Result}
use Rattle.format_json_texts.proofs.Going.{tails_equal}
use Rattle.format_json_texts.specs.NumberParts.{AreDigits, IsDigit, IsExponent}

all_digits : (text : List ℕ) → AllByRecursion IsDigit text → AllDigits 10 text
all_digits [] are = tt
all_digits (d ∷ ds) are = (omega (arith, digit_value_digit d are.0, are.0), all_digits ds are.1)

-- digits with no sign stay
unsigned_same : (d : ℕ) (ds : List ℕ) → IsDigit d → without_leading_sign (d ∷ ds) ≡ d ∷ ds
unsigned_same d ds is =
    let minus : (d == 45) ≡ false = ne_eqb d 45 (λ e. omega (arith, e, is)) in
    let plus : (d == 43) ≡ false = ne_eqb d 43 (λ e. omega (arith, e, is)) in
    ap (λ (b : Bool). cond b ds (drop (cond (d == 43) 1 0) (d ∷ ds))) minus
    ∙ ap (λ (b : Bool). drop (cond b 1 0) (d ∷ ds)) plus

numeral : (sign digits : List ℕ) → (sign ≡ []) ⊎ ((sign ≡ 43 ∷ []) ⊎ (sign ≡ 45 ∷ []))
    → AreDigits digits → IsNumeral 10 (without_leading_sign (sign ++ digits))
numeral sign [] is are = absurd (omega (arith, are.0))
numeral sign (d ∷ ds) (inl e) are =
    let P : List ℕ → Type 0 = IsNumeral 10 in
    subst (λ s. P (without_leading_sign (s ++ d ∷ ds))) (sym e)
    (subst P (sym (unsigned_same d ds are.1.0)) (are.0, all_digits (d ∷ ds) are.1))
numeral sign (d ∷ ds) (inr (inl e)) are =
    let P : List ℕ → Type 0 = IsNumeral 10 in
    subst (λ s. P (without_leading_sign (s ++ d ∷ ds))) (sym e) (are.0, all_digits (d ∷ ds) are.1)
numeral sign (d ∷ ds) (inr (inr e)) are =
    let P : List ℕ → Type 0 = IsNumeral 10 in
    subst (λ s. P (without_leading_sign (s ++ d ∷ ds))) (sym e) (are.0, all_digits (d ∷ ds) are.1)

pub behind_letter : (exponent text : List ℕ) (power : ℤ) (first : ℕ) → IsExponent exponent power
    → exponent ≡ first ∷ text
    → IsNumeral 10 (without_leading_sign text) × (power ≡ signed_digits_value 10 text)
behind_letter exponent text power first (inl none) e =
    absurd (omega (arith, ap (λ (l : List ℕ). length l) (sym none.0 ∙ e)))
behind_letter exponent text power first (inr p) e =
    let same : p.sign ++ p.digits ≡ text = tails_equal (sym p.joins ∙ e) in (
      subst (λ t. IsNumeral 10 (without_leading_sign t)) same
          (numeral p.sign p.digits p.is_sign p.are_digits),
      p.says ∙ ap (signed_digits_value 10) same,
    )

-- it is ASCII
ascii_more : (b : ℕ) (text : List ℕ) → b < 128 → IsAscii text → IsAscii (b ∷ text)
ascii_more b text low are zero = low
ascii_more b text low are (suc i) = are i

digits_ascii : (text : List ℕ) → AllByRecursion IsDigit text → IsAscii text
digits_ascii [] are = λ i. omega arith
digits_ascii (d ∷ ds) are = ascii_more d ds (omega (arith, are.0)) (digits_ascii ds are.1)

signed_ascii : (sign digits : List ℕ) → (sign ≡ []) ⊎ ((sign ≡ 43 ∷ []) ⊎ (sign ≡ 45 ∷ []))
    → AllByRecursion IsDigit digits → IsAscii (sign ++ digits)
signed_ascii sign digits (inl e) are =
    subst (λ s. IsAscii (s ++ digits)) (sym e) (digits_ascii digits are)
signed_ascii sign digits (inr (inl e)) are =
    subst (λ s. IsAscii (s ++ digits)) (sym e)
    (ascii_more 43 digits (omega arith) (digits_ascii digits are))
signed_ascii sign digits (inr (inr e)) are =
    subst (λ s. IsAscii (s ++ digits)) (sym e)
    (ascii_more 45 digits (omega arith) (digits_ascii digits are))

pub behind_letter_utf8 : (exponent text : List ℕ) (power : ℤ) (first : ℕ)
    → IsExponent exponent power → exponent ≡ first ∷ text → IsUtf8 text
behind_letter_utf8 exponent text power first (inl none) e =
    absurd (omega (arith, ap (λ (l : List ℕ). length l) (sym none.0 ∙ e)))
behind_letter_utf8 exponent text power first (inr p) e =
    subst IsUtf8 (tails_equal (sym p.joins ∙ e))
    (IsUtf8-from_ascii (p.sign ++ p.digits) (signed_ascii p.sign p.digits p.is_sign p.are_digits.1))

-- what is parsed
pub power_parsed : {E : Type 0} (text all : List ℕ) (power : ℤ) (parsed : Result ℤ E)
    (result : Option ℤ) → text ≡ all → IsNumeral 10 (without_leading_sign all)
    → power ≡ signed_digits_value 10 all → ParsesSigned w128 10 text parsed
    → result ≡ result_ok parsed → SomeIff result (FitsSigned w128 power) power
power_parsed {E} text all power parsed result same numeral says parses is =
    let P : ℤ → Option ℤ → Type 0 = λ k r. SomeIff r (FitsSigned w128 k) k in
    let Q : List ℕ → Type 0 = λ t. ParsesSigned w128 10 t parsed in
    subst (λ k. P k result) (sym says)
    (subst (P (signed_digits_value 10 all)) (sym is) (by parsed (subst Q same parses)))
  where
    by : (r : Result ℤ E) → ParsesSigned w128 10 all r
        → SomeIff (result_ok r) (FitsSigned w128 (signed_digits_value 10 all))
        (signed_digits_value 10 all)
    by (Ok k) (fits, e) = (fits.1, e)
    by (Err e) not = λ fits. not (numeral, fits)
