-- Integers times powers of ten.
use Rattle.std.proofs.Common.{◌≡◌, ◌∙◌, ◌<◌, ◌≤◌, ◌+◌, ◌*◌, ◌^◌, ◌+ℤ◌, ◌-ℤ◌}
use Rattle.std.proofs.Common.{◌*ℤ◌, ◌++◌, neg_ℤ}
use Rattle.std.proofs.Common.{Bool, false, true, ℕ, zero, suc, ℤ, pos, ap, arith, inl, inr, length}
use Rattle.std.proofs.Common.{refl, sym}
use Rattle.std.proofs.lemmas.Int.{ints}
use Rattle.std.proofs.Math.Nat.{mul_assoc}
use Rattle.std.proofs.lemmas.Nat.{pow-add}
use Rattle.std.specs.Int.{w32, w128}
use Rattle.std.specs.Prelude.{FitsSigned}
use Rattle.std.specs.Str.Parse.{digits_value}
use Rattle.format_json_texts.specs.Decimals.{AreEqual, IsDecimal}
use Rattle.format_json_texts.specs.NumberParts.{Number, coefficient, scale, with_sign}
use Rattle.format_json_texts.specs.Digits.{IsReduced, IsTooLong}

nothing : (b : ℕ) → 0 * b ≡ 0
nothing b = omega arith

pub sign_times : (negative : Bool) (a b : ℕ)
    → with_sign negative a *ℤ pos b ≡ with_sign negative (a * b)
sign_times false a b = refl
sign_times true zero b = ap pos (nothing b) ∙ ap (λ k. neg_ℤ (pos k)) (sym (nothing b))
sign_times true (suc a) b = refl

pub reduced_equal : (n : Number) (m z : ℕ) (exponent : ℤ)
    → digits_value 10 (n.whole ++ n.fraction) ≡ m * 10 ^ z
    → exponent ≡ n.power +ℤ pos z -ℤ pos (length n.fraction)
    → AreEqual (coefficient n) (scale n) (with_sign n.negative m) exponent
reduced_equal n m z exponent is e i j balance =
    let all : ℕ = digits_value 10 (n.whole ++ n.fraction) in
    let j_is : j ≡ z + i = omega (arith, ints, e, balance) in
    let same : all * 10 ^ i ≡ m * 10 ^ j =
    ap (λ k. k * 10 ^ i) is ∙ mul_assoc m (10 ^ z) (10 ^ i)
    ∙ ap (λ t. m * t) (sym (pow-add 10 z i)) ∙ ap (λ k. m * 10 ^ k) (sym j_is) in
    sign_times n.negative all (10 ^ i) ∙ ap (with_sign n.negative) same
    ∙ sym (sign_times n.negative m (10 ^ j))

pub not_wide : (power : ℤ) (z places : ℕ) → z < 2 ^ 64 → places < 2 ^ 64
    → (FitsSigned w128 power → ⊥) → FitsSigned w32 (power +ℤ pos z -ℤ pos places) → ⊥
not_wide power z places less few not fits =
    not (omega (arith, ints, less, few, fits))

pub reduced_decimal : (n : Number) (m z : ℕ) (exponent : ℤ) → (m ≡ 0 → ⊥)
    → IsReduced (digits_value 10 (n.whole ++ n.fraction)) m z
    → exponent ≡ n.power +ℤ pos z -ℤ pos (length n.fraction)
    → IsDecimal n n.negative m exponent
reduced_decimal n m z exponent some (is, inl ends) e =
    (reduced_equal n m z exponent is e, inl ends)
reduced_decimal n m z exponent some (is, inr none) e = absurd (some none.0)

no_sign : (negative : Bool) (i : ℕ) → with_sign negative (0 * 10 ^ i) ≡ pos 0
no_sign false i = ap pos (nothing (10 ^ i))
no_sign true i = ap (λ k. neg_ℤ (pos k)) (nothing (10 ^ i))

pub is_zero : (n : Number) (m z : ℕ) → m ≡ 0
    → IsReduced (digits_value 10 (n.whole ++ n.fraction)) m z
    → IsDecimal n false 0 (pos 0)
is_zero n m z none (is, _) = (λ i j _. equal i j, inr (refl, refl, refl))
  where
    zero_all : digits_value 10 (n.whole ++ n.fraction) ≡ 0
    zero_all = is ∙ ap (λ k. k * 10 ^ z) none ∙ nothing (10 ^ z)

    equal : (i j : ℕ) → coefficient n *ℤ pos (10 ^ i) ≡ with_sign false 0 *ℤ pos (10 ^ j)
    equal i j =
        sign_times n.negative (digits_value 10 (n.whole ++ n.fraction)) (10 ^ i)
        ∙ ap (λ k. with_sign n.negative (k * 10 ^ i)) zero_all ∙ no_sign n.negative i
        ∙ sym (no_sign false j)

pub too_long : (n : Number) → IsTooLong (digits_value 10 (n.whole ++ n.fraction))
    → (negative : Bool) × (digits : ℕ) × (exponent : ℤ)
    × IsDecimal n negative digits exponent × (2 ^ 64 ≤ digits)
too_long n (m, z, is, long) = (
  n.negative,
  m,
  n.power +ℤ pos z -ℤ pos (length n.fraction),
  reduced_decimal n m z _ (λ e. omega (arith, e, long)) is refl,
  long,
)

pub not_fitting : (n : Number) (m z : ℕ) → (m ≡ 0 → ⊥) → m < 2 ^ 64
    → IsReduced (digits_value 10 (n.whole ++ n.fraction)) m z
    → (FitsSigned w32 (n.power +ℤ pos z -ℤ pos (length n.fraction)) → ⊥)
    → (negative : Bool) × (digits : ℕ) × (exponent : ℤ)
    × IsDecimal n negative digits exponent
    × ((digits < 2 ^ 64) × (FitsSigned w32 exponent → ⊥))
not_fitting n m z some less is not = (
  n.negative,
  m,
  n.power +ℤ pos z -ℤ pos (length n.fraction),
  reduced_decimal n m z _ some is refl,
  (less, not),
)

pub moved_is : (said power : ℤ) (z places many : ℕ) → said ≡ power → places ≡ many
    → said +ℤ pos z -ℤ pos places ≡ power +ℤ pos z -ℤ pos many
moved_is said power z places many e f =
    ap (λ p. p +ℤ pos z -ℤ pos places) e ∙ ap (λ k. power +ℤ pos z -ℤ pos k) f
