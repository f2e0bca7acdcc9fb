-- Numbers that are equal have one decimal.
use Rattle.std.proofs.Common.{◌≡◌, ◌∙◌, ◌+◌, ◌*◌, ◌^◌, ◌%◌, ◌/◌, ◌+ℤ◌, ◌*ℤ◌, ◌++◌}
use Rattle.std.proofs.Common.{Bool, false, true, ℕ, zero, suc, ℤ, pos, negsuc, neg_ℤ, ap, arith}
use Rattle.std.proofs.Common.{inl, inr, refl, sym}
use Rattle.std.proofs.Math.Nat.{mul_assoc, mul-div_cancel}
use Rattle.std.proofs.lemmas.Int.{ints}
use Rattle.std.proofs.lemmas.Nat.{mod-mul-add, pow-add}
use Rattle.std.specs.Str.Parse.{digits_value}
use Rattle.format_json_texts.proofs.Scaled.{sign_times}
use Rattle.format_json_texts.proofs.Tens.{some_tens, times_ten}
use Rattle.format_json_texts.specs.Decimals.{AreEqual, IsDecimal, IsShortest}
use Rattle.format_json_texts.specs.NumberParts.{Number, coefficient, scale, with_sign}

-- ---- integers with signs

-- `x` and `y` are equal, and so are their signs `b` and `c` unless `x` is zero
alike : (b c : Bool) (x y : ℕ) → with_sign b x ≡ with_sign c y
    → (x ≡ y) × ((x ≡ 0 → ⊥) → b ≡ c)
alike false false x y e = (omega (arith, ints, e), λ _. refl)
alike true true x y e = (omega (arith, ints, e), λ _. refl)
alike false true x y e =
    (omega (arith, ints, e), λ some. absurd (some (omega (arith, ints, e))))
alike true false x y e =
    (omega (arith, ints, e), λ some. absurd (some (omega (arith, ints, e))))

cancel : (x y k : ℕ) → x * 10 ^ k ≡ y * 10 ^ k → x ≡ y
cancel x y k e =
    sym (mul-div_cancel x (some_tens k)) ∙ ap (λ n. n / 10 ^ k) e ∙ mul-div_cancel y (some_tens k)

is_zero : (x k : ℕ) → x * 10 ^ k ≡ 0 → x ≡ 0
is_zero x k e = cancel x 0 k (e ∙ omega arith)

signed_cancel : (b c : Bool) (x y k : ℕ) → with_sign b (x * 10 ^ k) ≡ with_sign c (y * 10 ^ k)
    → with_sign b x ≡ with_sign c y
signed_cancel b c x y k e = by b c (alike b c (x * 10 ^ k) (y * 10 ^ k) e) e
  where
    no_sign : (x y : ℕ) → x ≡ 0 → y ≡ 0 → pos x ≡ neg_ℤ (pos y)
    no_sign x y e f = ap pos e ∙ ap (λ n. neg_ℤ (pos n)) (sym f)

    by : (b c : Bool) → (x * 10 ^ k ≡ y * 10 ^ k) × ((x * 10 ^ k ≡ 0 → ⊥) → b ≡ c)
        → with_sign b (x * 10 ^ k) ≡ with_sign c (y * 10 ^ k) → with_sign b x ≡ with_sign c y
    by false false (same, _) e = ap pos (cancel x y k same)
    by true true (same, _) e = ap (λ n. neg_ℤ (pos n)) (cancel x y k same)
    by false true (same, _) e =
        no_sign x y (is_zero x k (omega (arith, ints, e))) (is_zero y k (omega (arith, ints, e)))
    by true false (same, _) e =
        sym (no_sign y x (is_zero y k (omega (arith, ints, e)))
        (is_zero x k (omega (arith, ints, e))))

less_tens : (b c : Bool) (x w i j k : ℕ)
    → with_sign b x *ℤ pos (10 ^ (i + k)) ≡ with_sign c w *ℤ pos (10 ^ (j + k))
    → with_sign b x *ℤ pos (10 ^ i) ≡ with_sign c w *ℤ pos (10 ^ j)
less_tens b c x w i j k e =
    sign_times b x (10 ^ i)
    ∙ signed_cancel b c (x * 10 ^ i) (w * 10 ^ j) k
    (ap (with_sign b) (parted x i) ∙ sym (sign_times b x (10 ^ (i + k))) ∙ e
    ∙ sign_times c w (10 ^ (j + k)) ∙ ap (with_sign c) (sym (parted w j)))
    ∙ sym (sign_times c w (10 ^ j))
  where
    parted : (x i : ℕ) → x * 10 ^ i * 10 ^ k ≡ x * 10 ^ (i + k)
    parted x i = mul_assoc x (10 ^ i) (10 ^ k) ∙ ap (λ t. x * t) (sym (pow-add 10 i k))

-- ---- numbers that do not end in zero

tens : (x k : ℕ) → x * 10 ^ suc k ≡ x * 10 ^ k * 10
tens x k =
    let more : suc k ≡ k + 1 = omega arith in ap (λ i. x * 10 ^ i) more ∙ times_ten x k

ends_in_zero : (x y k : ℕ) → y ≡ x * 10 ^ suc k → y % 10 ≡ 0
ends_in_zero x y k e =
    ap (λ n. n % 10) (e ∙ tens x k ∙ omega arith) ∙ mod-mul-add (x * 10 ^ k) 10 0 (omega arith)

one_ending : (x y i j : ℕ) → (x % 10 ≡ 0 → ⊥) → (y % 10 ≡ 0 → ⊥) → x * 10 ^ i ≡ y * 10 ^ j
    → (x ≡ y) × (i ≡ j)
one_ending x y zero zero xs ys e = (omega (arith, e), refl)
one_ending x y zero (suc j) xs ys e = absurd (xs (ends_in_zero y x j (omega (arith, e))))
one_ending x y (suc i) zero xs ys e = absurd (ys (ends_in_zero x y i (omega (arith, e))))
one_ending x y (suc i) (suc j) xs ys e =
    let (same, k) = one_ending x y i j xs ys (omega (arith, e, tens x i, tens y j)) in
    (same, ap suc k)

-- ---- decimals

pub equal_self : (a p : ℤ) → AreEqual a p a p
equal_self a p i j e = ap (λ k. a *ℤ pos (10 ^ k)) (omega (arith, ints, e))

-- a power of ten that makes an exponent natural
raised : (p : ℤ) → (k : ℕ) × (i : ℕ) × (p +ℤ pos k ≡ pos i)
raised (pos a) = (0, a, omega (arith, ints))
raised (negsuc a) = (a + 1, 0, omega (arith, ints))

one_shortest : (b c : Bool) (x y : ℕ) (e f : ℤ) (i j : ℕ) → e +ℤ pos j ≡ f +ℤ pos i
    → IsShortest b x e → IsShortest c y f
    → with_sign b x *ℤ pos (10 ^ i) ≡ with_sign c y *ℤ pos (10 ^ j)
    → (b ≡ c) × (x ≡ y) × (e ≡ f)
one_shortest b c x y e f i j balance short brief equal = by short brief
    (alike b c (x * 10 ^ i) (y * 10 ^ j)
    (sym (sign_times b x (10 ^ i)) ∙ equal ∙ sign_times c y (10 ^ j)))
  where
    nothing : (x y i j : ℕ) → x * 10 ^ i ≡ y * 10 ^ j → y ≡ 0 → x % 10 ≡ 0
    nothing x y i j e none =
        ap (λ n. n % 10) (is_zero x i (e ∙ ap (λ n. n * 10 ^ j) none ∙ omega arith))

    by : IsShortest b x e → IsShortest c y f
        → (x * 10 ^ i ≡ y * 10 ^ j) × ((x * 10 ^ i ≡ 0 → ⊥) → b ≡ c)
        → (b ≡ c) × (x ≡ y) × (e ≡ f)
    by (inl ends) (inl too) (same, sign) =
        let (numbers, powers) = one_ending x y i j ends too same in (
          sign (λ none. ends (ap (λ n. n % 10) (is_zero x i none))),
          numbers,
          omega (arith, ints, balance, powers),
        )
    by (inl ends) (inr none) (same, sign) = absurd (ends (nothing x y i j same none.1))
    by (inr none) (inl ends) (same, sign) = absurd (ends (nothing y x j i (sym same) none.1))
    by (inr none) (inr too) _ = (none.0 ∙ sym too.0, none.1 ∙ sym too.1, none.2 ∙ sym too.2)

-- all four, times powers of ten that make their exponents one
pub one_decimal : (n m : Number) (b c : Bool) (x y : ℕ) (e f : ℤ) → IsDecimal n b x e
    → IsDecimal m c y f → AreEqual (coefficient n) (scale n) (coefficient m) (scale m)
    → (b ≡ c) × (x ≡ y) × (e ≡ f)
one_decimal n m b c x y e f is has same =
    let (k, p, r) = raised (scale n) in
    let (l, q, s) = raised (scale m) in
    let (g, i, t) = raised e in
    let (h, j, u) = raised f in
    one_shortest b c x y e f (i + k + l + h) (j + k + l + g) (omega (arith, ints, t, u)) is.1 has.1
    (sym (is.0 (p + l + g + h) (i + k + l + h) (omega (arith, ints, r, t)))
    ∙ same (p + l + g + h) (q + k + g + h) (omega (arith, ints, r, s))
    ∙ has.0 (q + k + g + h) (j + k + l + g) (omega (arith, ints, s, u)))

pub same_decimal : (n m : Number) (b c : Bool) (x y : ℕ) (e f : ℤ) → IsDecimal n b x e
    → IsDecimal m c y f → (b ≡ c) × (x ≡ y) × (e ≡ f)
    → AreEqual (coefficient n) (scale n) (coefficient m) (scale m)
same_decimal n m b c x y e f is has (g, h, same) i j balance =
    let (k, p, r) = raised (scale n) in
    let (l, q, s) = raised e in
    let both : with_sign b x ≡ with_sign c y = ap (λ d. with_sign d x) g ∙ ap (with_sign c) h in
    less_tens n.negative m.negative (digits_value 10 (n.whole ++ n.fraction))
    (digits_value 10 (m.whole ++ m.fraction)) i j (p + l)
    (is.0 (i + (p + l)) (q + k + i) (omega (arith, ints, r, s))
    ∙ ap (λ a. a *ℤ pos (10 ^ (q + k + i))) both
    ∙ sym (has.0 (j + (p + l)) (q + k + i)
    (omega (arith, ints, r, s, balance, same))))
