-- The relation of std's definitions for the bytes of integers to the values of bytes.
use Rattle.std.specs.Prelude.{◌≡◌, ◌+◌, ◌-◌, ◌*◌, ◌^◌, ℕ, zero, suc, List, []}
use Rattle.std.specs.Prelude.{◌∷◌}
use Rattle.std.specs.Prelude.{length, reverse, slice_index}
use Rattle.std.specs.Int.{Width, byte_len, byte_worth, sum_through}
use Rattle.std.specs.Int.{from_be_bytes, from_le_bytes}
use Rattle.std.proofs.Common.{refl, sym, ap, ◌∙◌, arith}
use Rattle.std.proofs.Math.Nat.{mul_assoc, mul_comm, mul-add, pow-succ'}
use Rattle.winnow_integers.specs.Integer.{value_of}
use Rattle.winnow_integers.specs.Integer.Values.{value_of_reverse}

-- ---- sums

sum_same : (f g : ℕ → ℕ) (n : ℕ) → ((i : ℕ) → f i ≡ g i) → sum_through f n ≡ sum_through g n
sum_same f g zero same = same 0
sum_same f g (suc n) same = omega (arith, sum_same f g n same, same (suc n))

-- a sum is its first part and that of the others
sum_first : (f : ℕ → ℕ) (n : ℕ) → sum_through f (suc n) ≡ f 0 + sum_through (λ i. f (suc i)) n
sum_first f zero = refl
sum_first f (suc n) = omega (arith, sum_first f n)

sum_times : (c : ℕ) (f : ℕ → ℕ) (n : ℕ) → sum_through (λ i. c * f i) n ≡ c * sum_through f n
sum_times c f zero = refl
sum_times c f (suc n) =
    ap (λ x. x + c * f (suc n)) (sum_times c f n) ∙ sym (mul-add c (sum_through f n) (f (suc n)))

-- what a byte is worth
worth : (k b : ℕ) → byte_worth k b ≡ b * 256 ^ k
worth zero b = omega arith
worth (suc k) b = refl

worth_more : (k b : ℕ) → byte_worth (suc k) b ≡ 256 * byte_worth k b
worth_more k b =
    worth (suc k) b ∙ ap (λ p. b * p) (pow-succ' 256 k) ∙ sym (mul_assoc b 256 (256 ^ k))
    ∙ ap (λ x. x * 256 ^ k) (mul_comm b 256) ∙ mul_assoc 256 b (256 ^ k)
    ∙ ap (λ x. 256 * x) (sym (worth k b))

big_sum : (n : ℕ) (bytes : List ℕ) → length bytes ≡ suc n
    → sum_through (λ i. byte_worth (n - i) (slice_index bytes i)) n ≡ value_of bytes
big_sum n [] e = absurd (omega (arith, e))
big_sum zero (b ∷ []) e = omega arith
big_sum zero (b ∷ c ∷ bytes) e = absurd (omega (arith, e))
big_sum (suc n) (b ∷ bytes) e =
    let rest : length bytes ≡ suc n = omega (arith, e) in
    let others = sum_same (λ i. byte_worth (suc n - suc i) (slice_index (b ∷ bytes) (suc i)))
    (λ i. byte_worth (n - i) (slice_index bytes i)) n
    (λ i. ap (λ k. byte_worth k (slice_index bytes i)) (omega arith)) in
    sum_first (λ i. byte_worth (suc n - i) (slice_index (b ∷ bytes) i)) n
    ∙ ap (λ x. x + sum_through (λ i. byte_worth (suc n - suc i) (slice_index bytes i)) n)
    (ap (λ k. byte_worth k b) (all n) ∙ worth (suc n) b ∙ ap (λ k. b * 256 ^ k) (sym rest))
    ∙ ap (λ x. b * 256 ^ length bytes + x) (others ∙ big_sum n bytes rest)
  where
    all : (n : ℕ) → suc n - 0 ≡ suc n
    all n = omega arith

little_sum : (n : ℕ) (bytes : List ℕ) → length bytes ≡ suc n
    → sum_through (λ i. byte_worth i (slice_index bytes i)) n ≡ value_of (reverse bytes)
little_sum n [] e = absurd (omega (arith, e))
little_sum zero (b ∷ []) e = omega arith
little_sum zero (b ∷ c ∷ bytes) e = absurd (omega (arith, e))
little_sum (suc n) (b ∷ bytes) e =
    let rest : length bytes ≡ suc n = omega (arith, e) in
    sum_first (λ i. byte_worth i (slice_index (b ∷ bytes) i)) n
    ∙ ap (λ x. b + x) (sum_same (λ i. byte_worth (suc i) (slice_index bytes i))
    (λ i. 256 * byte_worth i (slice_index bytes i)) n
    (λ i. worth_more i (slice_index bytes i))
    ∙ sum_times 256 (λ i. byte_worth i (slice_index bytes i)) n
    ∙ ap (λ x. 256 * x) (little_sum n bytes rest))
    ∙ sym (value_of_reverse b bytes)

-- ---- std's words

-- the number of the bytes of a type is that of their value
pub from_be : (w : Width) (bytes : List ℕ) → length bytes ≡ suc (byte_len w - 1)
    → from_be_bytes w bytes ≡ value_of bytes
from_be w bytes e = big_sum (byte_len w - 1) bytes e

pub from_le : (w : Width) (bytes : List ℕ) → length bytes ≡ suc (byte_len w - 1)
    → from_le_bytes w bytes ≡ value_of (reverse bytes)
from_le w bytes e = little_sum (byte_len w - 1) bytes e
