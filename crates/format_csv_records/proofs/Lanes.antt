-- From the lanes of sixteen bytes to the longest prefix of plain bytes.
use Rattle.std.proofs.Common.{◌≡◌, ◌≤◌, ◌<◌, ◌+◌, ◌%◌, ◌^◌, ◌∙◌, ◌||◌, ◌++◌, ◌∷◌}
use Rattle.std.proofs.Common.{[], ℕ, List, suc, Bool, true, false, not, cond, eqb, map, length}
use Rattle.std.proofs.Common.{take, drop, replicate}
use Rattle.std.proofs.Common.{bit_or, refl, sym, ap, ap₂, subst, arith}
use Rattle.std.proofs.lemmas.Bool.Decides.{nat_tests}
use Rattle.std.proofs.Math.Seq.{take-add}
use Rattle.std.proofs.lemmas.List.{drop-drop, length-drop, length-map}
use Rattle.std.proofs.lemmas.List.Elements.{All-append, All-cons, All-nil}
use Rattle.std.proofs.lemmas.Simd.{chunk-drop, length-chunk, map-map, mask_l-mod}
use Rattle.std.proofs.lemmas.Simd.{trailing_mask_l, zip2-map, zip2_splat}
use Rattle.std.specs.List.{All, prefix_len}
use lib.Count.{count_trailing_zeros}
use lib.Lanes.{chunk, mask_l, top, zip2}
use Rattle.format_csv_records.specs.Dialects.{IsPlain}
use Rattle.format_csv_records.specs.Parts.{LongestPrefixLength}
use Rattle.format_csv_records.specs.declared.dialect.Dialect.{Dialect}

-- ---- which lanes are set

abbrev is_other : Dialect → ℕ → Bool
is_other d x = (eqb x d.quote || eqb x d.delimiter) || (eqb x 13 || eqb x 10)

other_is_not_plain : (d : Dialect) (x : ℕ) → is_other d x ≡ true → IsPlain d x → ⊥
other_is_not_plain d x is p = grind (arith, nat_tests)

all_other : (d : Dialect) (x : ℕ) → is_other d x ≡ false → IsPlain d x
all_other d x is = grind (arith, nat_tests)

-- a lane of a comparison is set in all bits or in none
abbrev lane : Bool → ℕ
lane b = cond b 255 0

either : (a b : Bool) → bit_or (lane a) (lane b) ≡ lane (a || b)
either true true = refl
either true false = refl
either false true = refl
either false false = refl

top_bit_of_lane : (b : Bool) → top 7 (lane b) ≡ b
top_bit_of_lane true = refl
top_bit_of_lane false = refl

joined : (p q : ℕ → Bool) (xs : List ℕ) {us vs : List ℕ} → us ≡ map (λ x. lane (p x)) xs
    → vs ≡ map (λ x. lane (q x)) xs → zip2 bit_or us vs ≡ map (λ x. lane (p x || q x)) xs
joined p q xs e f =
    ap₂ (zip2 bit_or) e f ∙ zip2-map bit_or (λ x. lane (p x)) (λ x. lane (q x)) xs
    ∙ (λ i. map (λ x. either (p x) (q x) i) xs)

abbrev equal : List ℕ → ℕ → List ℕ
equal xs c = zip2 (λ a b. lane (eqb a b)) xs (replicate 16 c)

-- the bits of the lanes that are not plain
pub others_are : (d : Dialect) (bytes : List ℕ) → 16 ≤ length bytes
    → mask_l (map (top 7) (zip2 bit_or
    (zip2 bit_or (equal (chunk 0 16 bytes) d.quote) (equal (chunk 0 16 bytes) d.delimiter))
    (zip2 bit_or (equal (chunk 0 16 bytes) 13) (equal (chunk 0 16 bytes) 10)))) % 2 ^ 64
    ≡ mask_l (map (is_other d) (chunk 0 16 bytes))
others_are d bytes room =
    let xs = chunk 0 16 bytes in
    let long = length-chunk 0 16 bytes room in
    let eq = λ (c : ℕ). zip2_splat (λ a b. lane (eqb a b)) xs 16 c long in
    let all = joined (λ x. eqb x d.quote || eqb x d.delimiter) (λ x. eqb x 13 || eqb x 10) xs
    (joined (λ x. eqb x d.quote) (λ x. eqb x d.delimiter) xs (eq d.quote) (eq d.delimiter))
    (joined (λ x. eqb x 13) (λ x. eqb x 10) xs (eq 13) (eq 10)) in
    ap (λ l. mask_l l % 2 ^ 64)
    (ap (map (top 7)) all ∙ map-map (top 7) (λ x. lane (is_other d x)) xs
    ∙ (λ i. map (λ x. top_bit_of_lane (is_other d x) i) xs))
    ∙ mask_l-mod (map (is_other d) xs) 64 (omega (arith, length-map xs (is_other d), long))

-- ---- the first that is set

module _ (p : ℕ → Bool) (P : ℕ → Type 0) (no : (x : ℕ) → p x ≡ true → P x → ⊥)
    (yes : (x : ℕ) → p x ≡ false → P x) where
  none_set : (xs : List ℕ) → mask_l (map p xs) ≡ 0 → All P xs
  none_set [] none = All-nil P
  none_set (x ∷ xs) none = by (p x) refl (λ e. none_set xs e)
    where
      by : (b : Bool) → p x ≡ b → (mask_l (map p xs) ≡ 0 → All P xs) → All P (x ∷ xs)
      by true is more = absurd (omega (arith, none, ap {B = ℕ} (λ b. cond b 1 0) is))
      by false is more =
          All-cons P x xs (yes x is)
          (more (omega (arith, none, ap {B = ℕ} (λ b. cond b 1 0) is)))

  some_set : (xs ys : List ℕ) → 0 < mask_l (map p xs)
      → LongestPrefixLength P (xs ++ ys) (prefix_len (λ x. not (p x)) xs)
  some_set [] ys some = absurd (omega (arith, some))
  some_set (x ∷ xs) ys some = by (p x) refl (λ more. some_set xs ys more)
    where
      R : ℕ → Type 0
      R n = LongestPrefixLength P (x ∷ (xs ++ ys)) n

      by : (b : Bool) → p x ≡ b
          → (0 < mask_l (map p xs)
          → LongestPrefixLength P (xs ++ ys) (prefix_len (λ y. not (p y)) xs))
          → R (prefix_len (λ y. not (p y)) (x ∷ xs))
      by true is ends =
          let more = prefix_len (λ y. not (p y)) xs in
          let none : prefix_len (λ y. not (p y)) (x ∷ xs) ≡ 0 =
          ap {B = ℕ} (λ b. cond (not b) (1 + more) 0) is in
          subst R (sym none) (omega arith, All-nil P, no x is)
      by false is ends =
          let more = prefix_len (λ y. not (p y)) xs in
          let up : 1 + more ≡ suc more = omega arith in
          let one : prefix_len (λ y. not (p y)) (x ∷ xs) ≡ suc more =
          ap {B = ℕ} (λ b. cond (not b) (1 + more) 0) is ∙ up in
          let (few, all, other) =
          ends (omega (arith, some, ap {B = ℕ} (λ b. cond b 1 0) is)) in
          subst R (sym one) (omega (arith, few), All-cons P x _ (yes x is) all, other)

-- ---- at the start of bytes

drop_none : (xs : List ℕ) → drop 0 xs ≡ xs
drop_none [] = refl
drop_none (x ∷ xs) = refl

module _ (d : Dialect) (bytes : List ℕ) (others : ℕ) (room : 16 ≤ length bytes)
    (are : others ≡ mask_l (map (is_other d) (chunk 0 16 bytes))) where
  pub all_plain : others ≡ 0 → All (IsPlain d) (take 16 bytes)
  all_plain none =
      subst (λ l. All (IsPlain d) (take 16 l)) (drop_none bytes)
      (none_set (is_other d) (IsPlain d) (other_is_not_plain d) (all_other d) (chunk 0 16 bytes)
      (sym are ∙ none))

  pub first_other : (others ≡ 0 → ⊥)
      → LongestPrefixLength (IsPlain d) bytes (count_trailing_zeros 64 others)
  first_other some =
      let v = chunk 0 16 bytes in
      let positive : 0 < mask_l (map (is_other d) v) = omega (arith, are, some) in
      let size : count_trailing_zeros 64 others ≡ prefix_len (λ x. not (is_other d x)) v =
      ap (count_trailing_zeros 64) are
      ∙ trailing_mask_l (is_other d) 64 v (omega (arith, length-chunk 0 16 bytes room)) positive in
      subst (λ n. LongestPrefixLength (IsPlain d) bytes n) (sym size)
      (subst (λ l. LongestPrefixLength (IsPlain d) l (prefix_len (λ x. not (is_other d x)) v))
      (sym (chunk-drop 0 16 bytes))
      (some_set (is_other d) (IsPlain d) (other_is_not_plain d) (all_other d) v (drop 16 bytes)
      positive))

-- ---- the longest prefix, part by part

pub longest_prefix_append : (these : ℕ → Type 0) (bytes : List ℕ) (n : ℕ)
    → All these (take n bytes) → (k : ℕ)
    → n ≡ k → k ≤ length bytes → (rest : List ℕ) → rest ≡ drop k bytes → (m : ℕ)
    → LongestPrefixLength these rest m → LongestPrefixLength these bytes (k + m)
longest_prefix_append these bytes n before k same within rest is m (few, all, not) = (
  omega (arith, few, within, ap (λ l. length l) is, length-drop k bytes),
  rw (take-add k m bytes) (All-append these (take k bytes) (take m (drop k bytes))
      (rw same at before) (rw is at all)),
  rw (is, drop-drop m k bytes) at not,
)

-- and for 16 bytes more
pub run_more : (these : ℕ → Type 0) (bytes : List ℕ) (n : ℕ) → All these (take n bytes)
    → (rest : List ℕ) → rest ≡ drop n bytes → All these (take 16 rest)
    → All these (take (n + 16) bytes)
run_more these bytes n before rest is more =
    rw (take-add n 16 bytes) (All-append these (take n bytes) (take 16 (drop n bytes)) before
    (rw is at more))
