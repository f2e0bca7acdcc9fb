-- The results of operators are unique, and those of factorials and powers are known from their
-- parts.
use Rattle.std.specs.Prelude.{◌≡◌, ◌+◌, ◌-◌, ◌*◌, ◌<◌, ◌≤◌, ◌^◌, ℕ, ℤ, pos, neg_ℤ}
use Rattle.std.specs.Prelude.{None, Option, Some}
use Rattle.std.specs.Int.{int_pow}
use Rattle.std.proofs.Math.Nat.{mul-suc}
use Rattle.std.proofs.Common.{suc, zero, refl, sym, ◌∙◌, ap, subst, inl, inr, arith}
use Rattle.streams.specs.Input.{Input}
use Rattle.stream_errors.specs.Form.{Answer}
use Rattle.winnow_expression_trees.specs.Items.{FoldGives, GivesAtMostOne}
use Rattle.format_calculator.specs.Calculator.{GivesOption, IsAnswerOf, IsPower, IsUnitPower}
use Rattle.format_calculator.specs.Calculator.{factorial, mark_value, pair_value, sign_value}
use Rattle.format_calculator.specs.declared.calc.operators.Mark.{Mark}
use Rattle.format_calculator.specs.declared.calc.operators.Mark.TheVariants.{Factorial}
use Rattle.format_calculator.specs.declared.calc.operators.Pair.{Pair}
use Rattle.format_calculator.specs.declared.calc.operators.Pair.TheVariants.{Plus, Minus, Times}
use Rattle.format_calculator.specs.declared.calc.operators.Pair.TheVariants.{Over, Rest, Power}
use Rattle.format_calculator.specs.declared.calc.operators.Pair.TheVariants.{Equals}
use Rattle.format_calculator.specs.declared.calc.operators.Sign.{Sign}
use Rattle.format_calculator.specs.declared.calc.operators.Sign.TheVariants.{Positive, Negative}

pub one_sign : (f : Sign) (v : ℤ) → GivesAtMostOne (sign_value f v)
one_sign Positive v x y e f = e ∙ sym f
one_sign Negative v x y (fits, e) (fits2, f) = e ∙ sym f

pos_is_injective : {m n : ℕ} → pos m ≡ pos n → m ≡ n
pos_is_injective e = cc

pub one_mark : (g : Mark) (v : ℤ) → GivesAtMostOne (mark_value g v)
one_mark Factorial v x y (n, is, fits, e) (m, was, fits2, f) =
    let same : n ≡ m = pos_is_injective (sym is ∙ was) in
    e ∙ ap (λ k. pos (factorial k)) same ∙ sym f

zero_is_not_one : {X : Type 0} → pos 0 ≡ pos 1 → X
zero_is_not_one e = absurd (cc)

zero_less : {X : Type 0} → pos 0 ≡ neg_ℤ (pos 1) → X
zero_less e = absurd (cc)

one_is_not_minus_one : {X : Type 0} → pos 1 ≡ neg_ℤ (pos 1) → X
one_is_not_minus_one e = absurd (cc)

one_unit : (v : ℤ) (n : ℕ) → GivesAtMostOne (IsUnitPower v n)
one_unit v n x y (inl (is, e)) (inl (was, f)) = e ∙ sym f
one_unit v n x y (inl (is, e)) (inr (inl (was, f))) = zero_is_not_one (sym is ∙ was)
one_unit v n x y (inl (is, e)) (inr (inr (was, f))) = zero_less (sym is ∙ was)
one_unit v n x y (inr (inl (is, e))) (inl (was, f)) = zero_is_not_one (sym was ∙ is)
one_unit v n x y (inr (inl (is, e))) (inr (inl (was, f))) = e ∙ sym f
one_unit v n x y (inr (inl (is, e))) (inr (inr (was, f))) = one_is_not_minus_one (sym is ∙ was)
one_unit v n x y (inr (inr (is, e))) (inl (was, f)) = zero_less (sym was ∙ is)
one_unit v n x y (inr (inr (is, e))) (inr (inl (was, f))) = one_is_not_minus_one (sym was ∙ is)
one_unit v n x y (inr (inr (is, e))) (inr (inr (was, f))) = e ∙ sym f

one_power : (v w : ℤ) → GivesAtMostOne (IsPower v w)
one_power v w x y (n, is, inl (low, fits, e)) (m, was, inl (low2, fits2, f)) =
    let same : n ≡ m = pos_is_injective (sym is ∙ was) in e ∙ ap (λ k. int_pow v k) same ∙ sym f
one_power v w x y (n, is, inl (low, fits, e)) (m, was, inr (high, of)) =
    let same : n ≡ m = pos_is_injective (sym is ∙ was) in absurd (omega (arith, same, low, high))
one_power v w x y (n, is, inr (high, of)) (m, was, inl (low, fits, f)) =
    let same : n ≡ m = pos_is_injective (sym is ∙ was) in absurd (omega (arith, same, low, high))
one_power v w x y (n, is, inr (high, of)) (m, was, inr (high2, of2)) =
    let same : n ≡ m = pos_is_injective (sym is ∙ was) in
    one_unit v m x y (subst (λ k. IsUnitPower v k x) same of) of2

pub one_pair : (h : Pair) (v w : ℤ) → GivesAtMostOne (pair_value h v w)
one_pair Plus v w x y (fits, e) (fits2, f) = e ∙ sym f
one_pair Minus v w x y (fits, e) (fits2, f) = e ∙ sym f
one_pair Times v w x y (fits, e) (fits2, f) = e ∙ sym f
one_pair Over v w x y (fits, e) (fits2, f) = e ∙ sym f
one_pair Rest v w x y (fits, e) (fits2, f) = e ∙ sym f
one_pair Power v w x y p q = one_power v w x y p q
one_pair Equals v w x y (inl (same, e)) (inl (same2, f)) = e ∙ sym f
one_pair Equals v w x y (inl (same, e)) (inr (other, f)) = absurd (other same)
one_pair Equals v w x y (inr (other, e)) (inl (same, f)) = absurd (other same)
one_pair Equals v w x y (inr (other, e)) (inr (other2, f)) = e ∙ sym f

pub factorial_next : (k m p : ℕ) → m ≡ k + 1 → p ≡ factorial k → p * m ≡ factorial m
factorial_next k m p e f =
    let one : m ≡ suc k = omega (arith, e) in
    ap (λ x. p * x) one ∙ ap (λ x. x * suc k) f ∙ ap factorial (sym one)

factorial_more : (k d : ℕ) → factorial k ≤ factorial (k + d)
factorial_more k zero = let e : k + 0 ≡ k = omega arith in omega (arith, ap factorial e)
factorial_more k (suc d) =
    let e : k + suc d ≡ suc (k + d) = omega arith in
    let grows = times_more (factorial (k + d)) (k + d) in
    omega (arith, factorial_more k d, grows, ap factorial e)
  where
    times_more : (a b : ℕ) → a ≤ a * suc b
    times_more a b = omega (arith, mul-suc a b)

pub factorial_grows : (k n : ℕ) → k ≤ n → factorial k ≤ factorial n
factorial_grows k n le =
    let e : k + (n - k) ≡ n = omega (arith, le) in
    omega (arith, factorial_more k (n - k), ap factorial e)

pub factorial_none : (k n m p : ℕ) → m ≡ k + 1 → p ≡ factorial k → k < n → (p * m < 2 ^ 64 → ⊥)
    → factorial n < 2 ^ 64 → ⊥
factorial_none k n m p e f less large small =
    let next = factorial_next k m p e f in
    let grows = factorial_grows m n (omega (arith, e, less)) in
    large (omega (arith, next, grows, small))

pub power_as : (v w x y : ℤ) (r : Option ℤ) → x ≡ v → y ≡ w → GivesOption (IsPower x y) r
    → GivesOption (pair_value Power v w) r
power_as v w x y r e f is =
    let P : ℤ → ℤ → Type 0 = λ a b. GivesOption (IsPower a b) r in
    subst (λ a. P a w) e (subst (λ b. P x b) f is)

pub mark_as : {T : Type 0} (g : Mark) (v x : ℤ) (r : Option ℤ) (a : Answer ℤ) (i : Input T) → x ≡ v
    → Factorial ≡ g → GivesOption (mark_value Factorial x) r → IsAnswerOf r a
    → FoldGives (mark_value g v) i a i
mark_as g v x r a i e f is answer =
    let P : Mark → ℤ → Type 0 = λ h y. GivesOption (mark_value h y) r in
    given (mark_value g v) r a i (subst (λ h. P h v) f (subst (λ y. P Factorial y) e is)) answer
  where
    given : {T : Type 0} (gives : ℤ → Type 0) (r : Option ℤ) (a : Answer ℤ) (i : Input T)
        → GivesOption gives r → IsAnswerOf r a → FoldGives gives i a i
    given gives None a i none e = inr (none, e, refl)
    given gives (Some y) a i is e = inl (y, is, e, refl)

pub mark_only : (g : Mark) → Factorial ≡ g
mark_only Factorial = refl

pub unit_as : (v w x : ℤ) (n : ℕ) (r : Option ℤ) → w ≡ pos n → 2 ^ 32 ≤ n → x ≡ v
    → GivesOption (IsUnitPower x n) r → GivesOption (IsPower v w) r
unit_as v w x n None e high same none = λ y is. refuse y is
  where
    refuse : (y : ℤ) → IsPower v w y → ⊥
    refuse y (m, was, inl (low, fits, f)) =
        let equal : m ≡ n = pos_is_injective (sym was ∙ e) in omega (arith, equal, low, high)
    refuse y (m, was, inr (large, of)) =
        let equal : m ≡ n = pos_is_injective (sym was ∙ e) in
        none y (subst (λ z. IsUnitPower z n y) (sym same) (subst (λ k. IsUnitPower v k y) equal of))
unit_as v w x n (Some y) e high same is =
    (n, e, inr (high, subst (λ z. IsUnitPower z n y) same is))
