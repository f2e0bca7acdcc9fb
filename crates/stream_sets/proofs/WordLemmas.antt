-- Lemmas about the bits of a byte table.
use Rattle.std.specs.Prelude.{◌≡◌, ◌<◌, ◌/◌, ◌%◌, ◌||◌, ◌==◌, ℕ, suc, zero, max, Bool, true}
use Rattle.std.specs.Prelude.{false}
use Rattle.std.specs.Prelude.{◌+◌, ◌*◌, ◌^◌, ◌≤◌}
use Rattle.std.specs.Prelude.{List, [], ◌∷◌, slice_index_or}
use Rattle.std.proofs.Common.{arith, refl, sym, subst, inl, inr, ◌∙◌, ap}
use Rattle.std.proofs.Math.Nat.{eq-or-lt_of_le}
use Rattle.std.specs.Int.{bit_at, w64}
use Rattle.std.specs.Int.RustNames.{bit_or}
use Rattle.std.proofs.lemmas.Nat.Bits.{bit_at-lt, bit_at_or}
use Rattle.std.proofs.lemmas.Nat.Bits.{bit_at_set_same, bit_at_set_other}
use Rattle.stream_sets.specs.ByteSet.{bit_of}

-- a number of a word, one by one
pub each_word : (P : ℕ → Type 0) → P 0 → P 1 → P 2 → P 3 → (q : ℕ) → q < 4 → P q
each_word P a b c d zero within = a
each_word P a b c d (suc zero) within = b
each_word P a b c d (suc (suc zero)) within = c
each_word P a b c d (suc (suc (suc zero))) within = d
each_word P a b c d (suc (suc (suc (suc n)))) within = absurd (omega arith)

-- the greater of two bits
pub either_bit : (x y : ℕ) → x < 2 → y < 2 → (max x y == 1) ≡ ((x == 1) || (y == 1))
either_bit zero zero a b = refl
either_bit zero (suc zero) a b = refl
either_bit (suc zero) zero a b = refl
either_bit (suc zero) (suc zero) a b = refl
either_bit (suc (suc n)) y a b = absurd (omega arith)
either_bit x (suc (suc n)) a b = absurd (omega arith)

-- the bits of two tables together
pub union_bits : (xs ys : List ℕ) (b : ℕ) → b < 256
    → (bit_of (bit_or (slice_index_or xs 0 0) (slice_index_or ys 0 0)
    ∷ bit_or (slice_index_or xs 1 0) (slice_index_or ys 1 0)
    ∷ bit_or (slice_index_or xs 2 0) (slice_index_or ys 2 0)
    ∷ bit_or (slice_index_or xs 3 0) (slice_index_or ys 3 0) ∷ []) b == 1)
    ≡ ((bit_of xs b == 1) || (bit_of ys b == 1))
union_bits xs ys b below =
    let joined : ℕ → ℕ = λ q. bit_or (slice_index_or xs q 0) (slice_index_or ys q 0) in
    each_word (λ q. (bit_at (slice_index_or (joined 0 ∷ joined 1 ∷ joined 2 ∷ joined 3 ∷ []) q 0)
    (b % 64) == 1)
    ≡ ((bit_at (slice_index_or xs q 0) (b % 64) == 1)
    || (bit_at (slice_index_or ys q 0) (b % 64) == 1)))
    (one 0) (one 1) (one 2) (one 3) (b / 64) (omega arith)
  where
    one : (q : ℕ) → (bit_at (bit_or (slice_index_or xs q 0) (slice_index_or ys q 0)) (b % 64) == 1)
        ≡ ((bit_at (slice_index_or xs q 0) (b % 64) == 1)
        || (bit_at (slice_index_or ys q 0) (b % 64) == 1))
    one q =
        let x = slice_index_or xs q 0 in
        let y = slice_index_or ys q 0 in
        ap (λ n. n == 1) (bit_at_or x y (b % 64))
        ∙ either_bit _ _ (bit_at-lt x (b % 64)) (bit_at-lt y (b % 64))

-- the bits of a word below one and with one more: that of a member
pub with_member : (P : ℕ → Bool → Type 0) (word bit : ℕ) → bit < 64 → P bit true
    → ((i : ℕ) → i < bit → P i (bit_at word i == 1))
    → (i : ℕ) → i < bit + 1
    → P i (bit_at (bit_or word (1 * 2 ^ bit % 18446744073709551616)) i == 1)
with_member P word bit within is seen i below =
    let more = bit_or word (1 * 2 ^ bit % 18446744073709551616) in
    elim (eq-or-lt_of_le {n = i} {m = bit} (omega arith)) [
      | inl same ↦ subst (λ x. P x (bit_at more x == 1)) (sym same)
          (subst (P bit) (sym (ap (λ n. n == 1) (bit_at_set_same w64 word bit within))) is)
      | inr less ↦ subst (P i)
          (sym (ap (λ n. n == 1) (bit_at_set_other w64 word bit within i (other less))))
          (seen i less)
    ]
  where
    other : i < bit → i ≡ bit → ⊥
    other less same = omega arith

-- bits above the new one stay as they were
pub none_above : (word bit : ℕ) → bit < 64
    → ((i : ℕ) → bit ≤ i → bit_at word i ≡ 0)
    → (i : ℕ) → bit + 1 ≤ i
    → bit_at (bit_or word (1 * 2 ^ bit % 18446744073709551616)) i ≡ 0
none_above word bit within unseen i above =
    bit_at_set_other w64 word bit within i (λ same. omega arith) ∙ unseen i (omega arith)

pub without_member : (P : ℕ → Bool → Type 0) (word bit : ℕ) → bit_at word bit ≡ 0 → P bit false
    → ((i : ℕ) → i < bit → P i (bit_at word i == 1))
    → (i : ℕ) → i < bit + 1 → P i (bit_at word i == 1)
without_member P word bit none is seen i below =
    elim (eq-or-lt_of_le {n = i} {m = bit} (omega arith)) [
      | inl same ↦ subst (λ x. P x (bit_at word x == 1)) (sym same)
          (subst (P bit) (sym (ap (λ n. n == 1) none)) is)
      | inr less ↦ seen i less
    ]
