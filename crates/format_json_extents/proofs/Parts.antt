-- Numbers are what numbers in their parts are written as.
use Rattle.std.proofs.Common.{◌++◌, ◌∙◌, ◌∷◌, ◌≡◌, ◌⊎◌, [], ℕ, ℤ, Bool, List, ap, arith, false}
use Rattle.std.proofs.Common.{inl, inr, pos, refl, subst, sym, true}
use Rattle.std.specs.Str.Parse.{signed_digits_value}
use Rattle.std.proofs.lemmas.List.Elements.{All-from_recursion, recursion_from_All}
use Rattle.format_json_texts.specs.NumberParts as parts
use Rattle.format_json_texts.specs.NumberParts.{IsWritten, Number, sign_text}
use Rattle.format_json_extents.proofs.Matching.{byte_then_is_cons, given_byte_then_is_cons}
use Rattle.format_json_extents.proofs.Matching.{heads_equal, one_byte_text, tails_equal}
use Rattle.format_json_extents.proofs.Matching.{then_of_parts}
use Rattle.format_json_extents.proofs.Written.Numbers.{swap}
use Rattle.format_json_extents.specs.Number.{IsDigit, IsDigits, IsExponent, IsFraction}
use Rattle.format_json_extents.specs.Number.{IsIntegerPart, IsMinus, IsNonzeroDigit, IsNumber}
use Rattle.format_json_extents.specs.Number.{IsSign}
use Rattle.format_json_extents.specs.Texts.{IsByte, Maybe}

-- ---- from the text to the parts

digits_are : (text : List ℕ) → IsDigits text → parts.AreDigits text
digits_are text is =
    subst parts.AreDigits (sym (byte_then_is_cons is))
    (omega arith, (is.is_first.is_byte, recursion_from_All IsDigit is.second is.is_second))

sign_is : (text : List ℕ) → Maybe (IsByte IsMinus) text → (b : Bool) × (text ≡ sign_text b)
sign_is text (inl e) = (false, e)
sign_is text (inr is) = (true, is.alone ∙ ap (λ b. b ∷ []) is.is_byte)

whole_is : (text : List ℕ) → IsIntegerPart text → parts.IsIntegerPart text
whole_is text (inl is) =
    subst parts.IsIntegerPart (sym (is.alone ∙ ap (λ b. b ∷ []) is.is_byte))
    ((omega arith, ((omega arith, omega arith), tt)), λ more e. sym (tails_equal e))
whole_is text (inr is) =
    subst parts.IsIntegerPart (sym (byte_then_is_cons is)) (
      (
        omega arith,
        (
          (omega (arith, is.is_first.is_byte), omega (arith, is.is_first.is_byte)),
          recursion_from_All IsDigit is.second is.is_second,
        ),
      ),
      λ more e. absurd (omega (arith, heads_equal e, is.is_first.is_byte)),
    )

fraction_is : (text : List ℕ) → Maybe IsFraction text → (ds : List ℕ) × parts.IsFraction text ds
fraction_is text (inl e) = ([], inl (e, refl))
fraction_is text (inr is) = (
  is.second,
  inr (
    given_byte_then_is_cons 46 is,
    digits_are is.second is.is_second,
  ),
)

sign_of : (text : List ℕ) → Maybe (IsByte IsSign) text
    → (text ≡ []) ⊎ ((text ≡ 43 ∷ []) ⊎ (text ≡ 45 ∷ []))
sign_of text (inl e) = inl e
sign_of text (inr is) = elim is.is_byte [
  | inl plus ↦ inr (inl (is.alone ∙ ap (λ b. b ∷ []) plus))
  | inr minus ↦ inr (inr (is.alone ∙ ap (λ b. b ∷ []) minus))
]

exponent_is : (text : List ℕ) → Maybe IsExponent text → (power : ℤ) × parts.IsExponent text power
exponent_is text (inl e) = (pos 0, inl (e, refl))
exponent_is text (inr is) = (
  signed_digits_value 10 (is.is_second.first ++ is.is_second.second),
  inr (record {
    letter = is.is_first.byte;
    sign = is.is_second.first;
    digits = is.is_second.second;
    is_letter = swap is.is_first.is_byte;
    is_sign = sign_of is.is_second.first is.is_second.is_first;
    are_digits = digits_are is.is_second.second is.is_second.is_second;
    joins = byte_then_is_cons is ∙ ap (λ l. is.is_first.byte ∷ l) is.is_second.joins;
    says = refl;
  }),
)

pub number_parts : (text : List ℕ) → IsNumber text → (n : Number) × IsWritten text n
number_parts text is =
    let unsigned = is.is_second in
    let tail = unsigned.is_second in
    let (negative, sign) = sign_is is.first is.is_first in
    let (fraction, there) = fraction_is tail.first tail.is_first in
    let (power, said) = exponent_is tail.second tail.is_second in (
      record { negative = negative; whole = unsigned.first; fraction = fraction; power = power },
      record {
        point = tail.first;
        exponent = tail.second;
        is_whole = whole_is unsigned.first unsigned.is_first;
        is_fraction = there;
        is_exponent = said;
        joins = is.joins ∙ ap (λ l. l ++ is.second) sign
            ∙ ap (λ l. sign_text negative ++ l) (unsigned.joins
            ∙ ap (λ l. unsigned.first ++ l) tail.joins);
      },
    )

-- ---- from the parts to the text

digits_of : (text : List ℕ) → parts.AreDigits text → IsDigits text
digits_of [] are = absurd (omega (arith, are.0))
digits_of (b ∷ text) are =
    then_of_parts (b ∷ []) text (one_byte_text are.1.0 refl)
    (All-from_recursion IsDigit text are.1.1) refl

minus_of : (b : Bool) → Maybe (IsByte IsMinus) (sign_text b)
minus_of true = inr (one_byte_text refl refl)
minus_of false = inl refl

leading : (b : ℕ) → IsDigit b → (b ≡ 48) ⊎ IsNonzeroDigit b
leading b is = grind (arith, is)

whole_of : (text : List ℕ) → parts.IsIntegerPart text → IsIntegerPart text
whole_of [] is = absurd (omega (arith, is.0.0))
whole_of (b ∷ text) is = elim (leading b is.0.1.0) [
  | inl e ↦ inl (one_byte_text e (ap (λ l. b ∷ l) (is.1 text (ap (λ c. c ∷ text) e))))
  | inr lead ↦
      inr (then_of_parts (b ∷ []) text (one_byte_text lead refl)
      (All-from_recursion IsDigit text is.0.1.1) refl)
]

fraction_of : (text ds : List ℕ) → parts.IsFraction text ds → Maybe IsFraction text
fraction_of text ds (inl none) = inl none.0
fraction_of text ds (inr some) =
    inr (then_of_parts (46 ∷ []) ds (one_byte_text refl refl) (digits_of ds some.1) some.0)

of_sign : (text : List ℕ) → (text ≡ []) ⊎ ((text ≡ 43 ∷ []) ⊎ (text ≡ 45 ∷ []))
    → Maybe (IsByte IsSign) text
of_sign text (inl e) = inl e
of_sign text (inr (inl e)) = inr (one_byte_text (inl refl) e)
of_sign text (inr (inr e)) = inr (one_byte_text (inr refl) e)

exponent_of : (text : List ℕ) (power : ℤ) → parts.IsExponent text power → Maybe IsExponent text
exponent_of text power (inl none) = inl none.0
exponent_of text power (inr p) =
    inr (then_of_parts (p.letter ∷ []) (p.sign ++ p.digits) (one_byte_text (swap p.is_letter) refl)
    (then_of_parts p.sign p.digits (of_sign p.sign p.is_sign) (digits_of p.digits p.are_digits)
    refl)
    p.joins)

pub parts_number : (text : List ℕ) → ((n : Number) × IsWritten text n) → IsNumber text
parts_number text (n, is) =
    let tail = is.point ++ is.exponent in
    then_of_parts (sign_text n.negative) (n.whole ++ tail) (minus_of n.negative)
    (then_of_parts n.whole tail (whole_of n.whole is.is_whole)
    (then_of_parts is.point is.exponent (fraction_of is.point n.fraction is.is_fraction)
    (exponent_of is.exponent n.power is.is_exponent) refl) refl) is.joins
