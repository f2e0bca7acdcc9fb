-- Powers of ten, and numbers without the zeros at their ends.
use Rattle.std.proofs.Common.{◌≡◌, ◌∙◌, ◌<◌, ◌≤◌, ◌+◌, ◌*◌, ◌^◌, ℕ, ap, arith, inl, inr}
use Rattle.std.proofs.Common.{sym}
use Rattle.std.proofs.Math.Nat.{mul_assoc, mul-le-mul_left, pow-le-pow_right}
use Rattle.std.proofs.lemmas.Nat.{mod-mul-add, pow-add}
use Rattle.format_json_texts.specs.Digits.{IsReduced, IsTooLong}

pub ten_more : (k : ℕ) → 10 ^ (k + 1) ≡ 10 ^ k * 10
ten_more k = pow-add 10 k 1

-- one zero more
pub times_ten : (m k : ℕ) → m * 10 ^ (k + 1) ≡ m * 10 ^ k * 10
times_ten m k = ap (λ t. m * t) (ten_more k) ∙ sym (mul_assoc m (10 ^ k) 10)

pub push_zero : (n m z : ℕ) → (m ≡ 0 → ⊥) → IsReduced n m z → IsReduced (n * 10 + 0) m (z + 1)
push_zero n m z some (is, inl ends) = (omega (arith, is, times_ten m z), inl ends)
push_zero n m z some (is, inr none) = absurd (some none.0)

-- a digit that is not zero ends the digits
pub push_digit : (n d : ℕ) → (d ≡ 0 → ⊥) → d < 10 → IsReduced (n * 10 + d) (n * 10 + d) 0
push_digit n d some less =
    (omega (arith), inl (λ e. some (sym (mod-mul-add n 10 d less) ∙ e)))

-- as many zeros as there are, and one more
pub next_is : (n m z : ℕ) → IsReduced n m z → n * 10 ≡ m * 10 ^ (z + 1)
next_is n m z is = omega (arith, is.0, times_ten m z)

pub push_too_long : (n d : ℕ) → (d ≡ 0 → ⊥) → d < 10 → 2 ^ 64 ≤ n * 10 + d
    → IsTooLong (n * 10 + d)
push_too_long n d some less long = (n * 10 + d, 0, push_digit n d some less, long)

-- the first powers of ten are too much already
pub part_too_long : (n m z k at : ℕ) → IsReduced n m z → k ≤ z → at ≡ m * 10 ^ k
    → 2 ^ 64 ≤ at * 10 → 2 ^ 64 ≤ n * 10
part_too_long n m z k at is less there long =
    let most : m * 10 ^ (k + 1) ≤ m * 10 ^ (z + 1) =
    mul-le-mul_left m (pow-le-pow_right (omega arith) (omega (arith, less))) in
    omega (arith, next_is n m z is, there, times_ten m k, long, most)

pub some_tens : (k : ℕ) → 0 < 10 ^ k
some_tens k = pow-le-pow_right (omega arith) {i = 0} {j = k} (omega arith)
