-- Texts of decimal numbers: what the standard library reads of them.
use Rattle.std.proofs.Common.{◌≡◌, inl, inr, ◌^◌, ◌<◌, ◌++◌, ℕ, Bool, true, false, List}
use Rattle.std.proofs.Common.{[], ◌∷◌, drop, Option, Result, Ok, Err, refl, sym, ap, subst}
use Rattle.std.proofs.Common.{◌∙◌, arith}
use Rattle.std.proofs.lemmas.Bool.{eqb-true, ne_eqb}
use Rattle.std.proofs.lemmas.Bool.Decides.{nat_tests}
use Rattle.std.specs.Char.{digit_value}
use Rattle.std.specs.List.{AllByRecursion}
use Rattle.std.specs.Prelude.{cond, ◌==◌, ℤ, pos, neg_ℤ, FitsSigned}
use Rattle.std.specs.Result.{result_ok}
use Rattle.std.specs.Str.Parse.{AllDigits, IsNumeral, ParsesSigned, ParsesUnsigned, digits_value}
use Rattle.std.specs.Str.Parse.{signed_digits_value, starts_with_minus}
use Rattle.std.specs.Str.Parse.{without_leading_plus, without_leading_sign}
use mir.Syntax.{Width}
use Rattle.stream_sets.specs.AsChar.{IsDecDigit}
use Rattle.parser_definitions.specs.Digits.{value_in, value_is}
use Rattle.parser_definitions.specs.Number.{signed_value}
use Rattle.parser_definitions.specs.NumberGrammar.{AreDigits}
use Rattle.parser_definitions.specs.Numeral.{IsSign}
use Rattle.winnow_numbers.specs.Decimal.{digits_all}
use Rattle.winnow_numbers.specs.DecimalText.{IsSignedText, IsUnsignedText, ReadsSigned}
use Rattle.winnow_numbers.specs.DecimalText.{ReadsUnsigned}

digit_low : (c : ℕ) → IsDecDigit c → digit_value c < 10
digit_low c is = grind (arith, nat_tests)

all_digits : (ds : List ℕ) → AllByRecursion IsDecDigit ds → AllDigits 10 ds
all_digits [] all = tt
all_digits (d ∷ ds) all = (digit_low d all.0, all_digits ds all.1)

-- digits have no sign before them
no_plus : (digits : List ℕ) → AreDigits digits → without_leading_plus digits ≡ digits
no_plus [] are = refl
no_plus (d ∷ ds) are =
    let other : (d == 43) ≡ false = ne_eqb d 43 (λ e. omega arith) in
    ap (λ b. drop (cond b 1 0) (d ∷ ds)) other

plus_left : (text digits : List ℕ) → IsUnsignedText text digits
    → without_leading_plus text ≡ digits
plus_left text digits (are, inl e) = ap without_leading_plus e ∙ no_plus digits are
plus_left text digits (are, inr e) = ap without_leading_plus e

-- a text whose rest is a numeral is digits after a plus or nothing
unsigned_by : (c : ℕ) (cs : List ℕ) (b : Bool) → (c == 43) ≡ b
    → IsNumeral 10 (drop (cond b 1 0) (c ∷ cs))
    → (digits : List ℕ) × IsUnsignedText (c ∷ cs) digits
unsigned_by c cs true e is =
    (cs, ((is.0, digits_all cs is.1), inr (ap (λ x. x ∷ cs) (eqb-true c 43 e))))
unsigned_by c cs false e is = (c ∷ cs, ((is.0, digits_all (c ∷ cs) is.1), inl refl))

unsigned_text : (text : List ℕ) → IsNumeral 10 (without_leading_plus text)
    → (digits : List ℕ) × IsUnsignedText text digits
unsigned_text [] is = absurd (let no : 0 < 0 = is.0 in omega arith)
unsigned_text (c ∷ cs) is = unsigned_by c cs (c == 43) refl is

unsigned_result : {E : Type 0} (k : ℕ) (text : List ℕ) (r : Result ℕ E)
    → ParsesUnsigned k 10 text r → ReadsUnsigned (λ n. n) (2 ^ k) text (result_ok r)
unsigned_result k text (Ok n) told =
    let value : (digits : List ℕ) → IsUnsignedText text digits
    → digits_value 10 (without_leading_plus text) ≡ value_in 10 digits =
    λ digits is. ap (digits_value 10) (plus_left text digits is) ∙ value_is 10 digits in
    record {
      reads = λ digits is.
          let v = value digits is in let low = told.0.1 in (omega (arith, v, low), told.1 ∙ v);
      only = λ _. unsigned_text text told.0.0;
    }
unsigned_result k text (Err e) told = record {
  reads = λ digits is.
      let same = plus_left text digits is in
      let v : digits_value 10 (without_leading_plus text) ≡ value_in 10 digits =
      ap (digits_value 10) same ∙ value_is 10 digits in
      let P : List ℕ → Type 0 = λ l. IsNumeral 10 l in
      let numeral = subst P (sym same) (is.0.0, all_digits digits is.0.1) in
      let high : digits_value 10 (without_leading_plus text) < 2 ^ k → ⊥ =
      λ low. told (numeral, low) in
      omega (arith, v, high);
  only = λ is. absurd cc;
}

-- what the type reads of a text, by the standard library's contract
pub reads_unsigned : {E : Type 0} (k : ℕ) (text : List ℕ) (r : Result ℕ E) (answer : Option ℕ)
    → answer ≡ result_ok r → ParsesUnsigned k 10 text r
    → ReadsUnsigned (λ n. n) (2 ^ k) text answer
reads_unsigned k text r answer e told =
    let P : Option ℕ → Type 0 = λ x. ReadsUnsigned (λ n. n) (2 ^ k) text x in
    subst P (sym e) (unsigned_result k text r told)

-- digits have no sign before them
bare : (digits : List ℕ) → AreDigits digits
    → (starts_with_minus digits ≡ false) × (without_leading_sign digits ≡ digits)
bare [] are = (refl, refl)
bare (d ∷ ds) are =
    let other : (d == 45) ≡ false = ne_eqb d 45 (λ e. omega arith) in (
      other,
      ap (λ b. cond b (drop 1 (d ∷ ds)) (without_leading_plus (d ∷ ds))) other
          ∙ no_plus (d ∷ ds) are,
    )

-- the number by the sign and the digits
by_minus : Bool → List ℕ → ℤ
by_minus b ds = cond b (neg_ℤ (pos (digits_value 10 ds))) (pos (digits_value 10 ds))

abbrev pub SignedAs : List ℕ → List ℕ → List ℕ → Type 0
SignedAs text sign digits =
    (without_leading_sign text ≡ digits)
    × (signed_digits_value 10 text ≡ signed_value sign digits)

signed_bare : (text digits : List ℕ) → AreDigits digits → text ≡ digits → SignedAs text [] digits
unfolding by_minus
signed_bare text digits are e =
    let none = bare digits are in (
      ap without_leading_sign e ∙ none.1,
      ap (signed_digits_value 10) e ∙ ap (λ b. by_minus b (without_leading_sign digits)) none.0
          ∙ ap (by_minus false) none.1 ∙ ap (λ n. pos n) (value_is 10 digits),
    )

signed_behind : (text digits : List ℕ) (c : ℕ) → IsSign c → text ≡ c ∷ digits
    → SignedAs text (c ∷ []) digits
signed_behind text digits c (inl plus) e =
    let at : text ≡ 43 ∷ digits = e ∙ ap (λ x. x ∷ digits) plus in (
      ap without_leading_sign at,
      ap (signed_digits_value 10) at ∙ ap (λ n. pos n) (value_is 10 digits)
          ∙ ap (λ x. signed_value (x ∷ []) digits) (sym plus),
    )
signed_behind text digits c (inr minus) e =
    let at : text ≡ 45 ∷ digits = e ∙ ap (λ x. x ∷ digits) minus in (
      ap without_leading_sign at,
      ap (signed_digits_value 10) at ∙ ap (λ n. neg_ℤ (pos n)) (value_is 10 digits)
          ∙ ap (λ x. signed_value (x ∷ []) digits) (sym minus),
    )

signed_as : (text sign digits : List ℕ) → IsSignedText text sign digits → SignedAs text sign digits
signed_as text sign digits (are, e, inl none) =
    let P : List ℕ → Type 0 = λ s. SignedAs text s digits in
    subst P (sym none) (signed_bare text digits are (e ∙ ap (λ s. s ++ digits) none))
signed_as text sign digits (are, e, inr (c, is, one)) =
    let P : List ℕ → Type 0 = λ s. SignedAs text s digits in
    subst P (sym one) (signed_behind text digits c is (e ∙ ap (λ s. s ++ digits) one))

-- a text whose rest is a numeral is digits after a sign or nothing
abbrev pub HasSigned : List ℕ → Type 0
HasSigned text = (sign : List ℕ) × (digits : List ℕ) × IsSignedText text sign digits

behind_plus : (c : ℕ) (cs : List ℕ) (b : Bool) → (c == 43) ≡ b
    → IsNumeral 10 (drop (cond b 1 0) (c ∷ cs)) → HasSigned (c ∷ cs)
behind_plus c cs true e is = (
  43 ∷ [],
  cs,
  (
    (is.0, digits_all cs is.1),
    ap (λ x. x ∷ cs) (eqb-true c 43 e),
    inr (43, inl refl, refl),
  ),
)
behind_plus c cs false e is =
    ([], c ∷ cs, ((is.0, digits_all (c ∷ cs) is.1), refl, inl refl))

behind_minus : (c : ℕ) (cs : List ℕ) (b : Bool) → (c == 45) ≡ b
    → IsNumeral 10 (cond b (drop 1 (c ∷ cs)) (without_leading_plus (c ∷ cs)))
    → HasSigned (c ∷ cs)
behind_minus c cs true e is = (
  45 ∷ [],
  cs,
  (
    (is.0, digits_all cs is.1),
    ap (λ x. x ∷ cs) (eqb-true c 45 e),
    inr (45, inr refl, refl),
  ),
)
behind_minus c cs false e is = behind_plus c cs (c == 43) refl is

signed_text : (text : List ℕ) → IsNumeral 10 (without_leading_sign text) → HasSigned text
signed_text [] is = absurd (let no : 0 < 0 = is.0 in omega arith)
signed_text (c ∷ cs) is = behind_minus c cs (c == 45) refl is

signed_result : {E : Type 0} (w : Width) (text : List ℕ) (r : Result ℤ E)
    → ParsesSigned w 10 text r
    → ReadsSigned (λ n. n) (λ n. FitsSigned w n) text (result_ok r)
signed_result w text (Ok n) told = record {
  reads = λ sign digits is.
      let same = signed_as text sign digits is in
      let P : ℤ → Type 0 = λ z. FitsSigned w z in
      (subst P same.1 told.0.1, told.1 ∙ same.1);
  only = λ _. signed_text text told.0.0;
}
signed_result w text (Err e) told = record {
  reads = λ sign digits is fits.
      let same = signed_as text sign digits is in
      let P : ℤ → Type 0 = λ z. FitsSigned w z in
      let Q : List ℕ → Type 0 = λ l. IsNumeral 10 l in
      told (subst Q (sym same.0) (is.0.0, all_digits digits is.0.1), subst P (sym same.1) fits);
  only = λ is. absurd cc;
}

pub reads_signed : {E : Type 0} (w : Width) (text : List ℕ) (r : Result ℤ E) (answer : Option ℤ)
    → answer ≡ result_ok r → ParsesSigned w 10 text r
    → ReadsSigned (λ n. n) (λ n. FitsSigned w n) text answer
reads_signed w text r answer e told =
    let P : Option ℤ → Type 0 =
    λ x. ReadsSigned (λ n. n) (λ n. FitsSigned w n) text x in
    subst P (sym e) (signed_result w text r told)
