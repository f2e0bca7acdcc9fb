-- Lemmas about the parts of a number, in their order.
use Rattle.std.proofs.Common.{◌≡◌, ◌∙◌, ◌⊎◌, ◌+◌, ◌*◌, ℕ, Bool, true, false, List, [], ◌∷◌}
use Rattle.std.proofs.Common.{◌++◌}
use Rattle.std.proofs.Common.{ap, arith, inl, inr, length, refl, subst, sym}
use Rattle.std.specs.Char.{digit_value}
use Rattle.std.specs.List.{AllByRecursion}
use Rattle.std.specs.Str.Parse.{digits_value, digits_value_after}
use Rattle.format_json_texts.proofs.Going.{digits_stay_long, heads_equal, tails_equal}
use Rattle.format_json_texts.specs.NumberParts.{AreDigits, IsDigit, IsExponent, IsFraction}
use Rattle.format_json_texts.specs.NumberParts.{IsWritten, Number, sign_text}
use Rattle.format_json_texts.specs.Digits.{ContinuesDigits, IsReduced, IsTooLong}

-- ---- the sign

pub minus_there : (negative : Bool) (whole tail more : List ℕ) → AreDigits whole
    → 45 ∷ more ≡ sign_text negative ++ (whole ++ tail) → (true ≡ negative) × (more ≡ whole ++ tail)
minus_there true whole tail more are e = (refl, tails_equal e)
minus_there false [] tail more are e = absurd (omega (arith, are.0))
minus_there false (d ∷ ds) tail more are e = absurd (omega (arith, heads_equal e, are.1.0))

-- ---- the digits

no_digit_first : (exponent : List ℕ) (power : _) → IsExponent exponent power → (b : ℕ)
    (more : List ℕ) → exponent ≡ b ∷ more → (IsDigit b ⊎ (b ≡ 46)) → ⊥
no_digit_first exponent power (inl none) b more e is =
    absurd (omega (arith, ap (λ (l : List ℕ). length l) (sym none.0 ∙ e)))
no_digit_first exponent power (inr p) b more e is =
    by p.is_letter (heads_equal (sym p.joins ∙ e)) is
  where
    by : (p.letter ≡ 101) ⊎ (p.letter ≡ 69) → p.letter ≡ b → (IsDigit b ⊎ (b ≡ 46)) → ⊥
    by (inl l) same (inl is) = omega (arith, l, same, is)
    by (inr l) same (inl is) = omega (arith, l, same, is)
    by (inl l) same (inr is) = omega (arith, l, same, is)
    by (inr l) same (inr is) = omega (arith, l, same, is)

pub whole_goes : (text : List ℕ) (n : Number) (is : IsWritten text n) (bytes : List ℕ)
    → bytes ≡ n.whole ++ (is.point ++ is.exponent)
    → ContinuesDigits 0 bytes (digits_value 10 n.whole) (is.point ++ is.exponent)
whole_goes text n is bytes joins = record {
  digits = n.whole;
  are_digits = is.is_whole.0.1;
  joins = joins;
  makes = refl;
  ends = ends is.point is.is_fraction;
}
  where
    ends : (point : List ℕ) → IsFraction point n.fraction → (b : ℕ) (more : List ℕ)
        → point ++ is.exponent ≡ b ∷ more → IsDigit b → ⊥
    ends point (inl none) b more e digit =
        no_digit_first is.exponent n.power is.is_exponent b more
        (sym (ap (λ l. l ++ is.exponent) none.0) ∙ e) (inl digit)
    ends point (inr some) b more e digit =
        let first : 46 ≡ b = heads_equal (sym (ap (λ l. l ++ is.exponent) some.0) ∙ e) in
        omega (arith, first, digit)

digits_joined : (n : ℕ) (xs ys : List ℕ)
    → digits_value_after 10 n (xs ++ ys) ≡ digits_value_after 10 (digits_value_after 10 n xs) ys
digits_joined n [] ys = refl
digits_joined n (x ∷ xs) ys = digits_joined (n * 10 + digit_value x) xs ys

pub fraction_goes : (text : List ℕ) (n : Number) (is : IsWritten text n) (rest digits : List ℕ)
    → rest ≡ is.point ++ is.exponent → rest ≡ 46 ∷ digits
    → (digits ≡ n.fraction ++ is.exponent)
    × ContinuesDigits (digits_value 10 n.whole) digits (digits_value 10 (n.whole ++ n.fraction))
    is.exponent
fraction_goes text n is rest digits joins begins = by is.is_fraction
  where
    by : IsFraction is.point n.fraction
        → (digits ≡ n.fraction ++ is.exponent)
        × ContinuesDigits (digits_value 10 n.whole) digits (digits_value 10 (n.whole ++ n.fraction))
        is.exponent
    by (inl none) =
        let e : is.exponent ≡ 46 ∷ digits =
        sym (ap (λ l. l ++ is.exponent) none.0) ∙ sym joins ∙ begins in
        absurd (no_digit_first is.exponent n.power is.is_exponent 46 digits e (inr refl))
    by (inr some) =
        let there : digits ≡ n.fraction ++ is.exponent =
        tails_equal (sym begins ∙ joins ∙ ap (λ l. l ++ is.exponent) some.0) in (
          there,
          record {
            digits = n.fraction;
            are_digits = some.1.1;
            joins = there;
            makes = digits_joined 0 n.whole n.fraction;
            ends = λ b more e digit. no_digit_first is.exponent n.power is.is_exponent b more e
                (inl digit);
          },
        )

append_nothing : (xs : List ℕ) → xs ++ [] ≡ xs
append_nothing [] = refl
append_nothing (x ∷ xs) = ap (λ l. x ∷ l) (append_nothing xs)

-- no point
pub fraction_none : (text : List ℕ) (n : Number) (is : IsWritten text n) (rest : List ℕ)
    (digits zeros : ℕ) → rest ≡ is.point ++ is.exponent
    → ((more : List ℕ) → rest ≡ 46 ∷ more → ⊥)
    → IsReduced (digits_value 10 n.whole) digits zeros
    → (rest ≡ is.exponent) × (0 ≡ length n.fraction)
    × IsReduced (digits_value 10 (n.whole ++ n.fraction)) digits zeros
fraction_none text n is rest digits zeros joins not small = by is.is_fraction
  where
    by : IsFraction is.point n.fraction
        → (rest ≡ is.exponent) × (0 ≡ length n.fraction)
        × IsReduced (digits_value 10 (n.whole ++ n.fraction)) digits zeros
    by (inl none) =
        let same : digits_value 10 n.whole ≡ digits_value 10 (n.whole ++ n.fraction) =
        ap (digits_value 10)
        (sym (append_nothing n.whole) ∙ ap (λ l. n.whole ++ l) (sym none.1)) in (
          joins ∙ ap (λ l. l ++ is.exponent) none.0,
          sym (ap (λ (l : List ℕ). length l) none.1),
          subst (λ k. IsReduced k digits zeros) same small,
        )
    by (inr some) =
        absurd (not (n.fraction ++ is.exponent) (joins ∙ ap (λ l. l ++ is.exponent) some.0))

pub nothing_read : IsReduced 0 0 0
nothing_read = (refl, inr (refl, refl))

-- what is too long before the point stays so
pub whole_too_long : (text : List ℕ) (n : Number) → IsWritten text n
    → IsTooLong (digits_value 10 n.whole) → IsTooLong (digits_value 10 (n.whole ++ n.fraction))
whole_too_long text n is long =
    subst IsTooLong (sym (digits_joined 0 n.whole n.fraction))
    (digits_stay_long (digits_value 10 n.whole) n.fraction (fraction_digits is.is_fraction) long)
  where
    fraction_digits : IsFraction is.point n.fraction → AllByRecursion IsDigit n.fraction
    fraction_digits (inl none) = subst (AllByRecursion IsDigit) (sym none.1) tt
    fraction_digits (inr some) = some.1.1
