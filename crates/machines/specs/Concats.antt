-- Lemmas on concatenations.
use Rattle.std.proofs.Common.{◌≡◌, ◌⊎◌, ap, inl, inr, subst, sym, refl, ℕ, List, [], ◌∷◌, ◌++◌}
use Rattle.machines.specs.Languages.{Derivative, HasNonEmpty, Concat, Language, NeverStarts}

pub first_same : {x y : ℕ} {xs ys : List ℕ} → x ∷ xs ≡ y ∷ ys → x ≡ y
first_same e = cc

pub others_same : {x y : ℕ} {xs ys : List ℕ} → x ∷ xs ≡ y ∷ ys → xs ≡ ys
others_same e = cc

-- replaces the first byte of a word by an equal one
pub renamed : (L : Language) {x b : ℕ} {word : List ℕ} → b ≡ x → L (x ∷ word) → L (b ∷ word)
renamed L {word = word} e it = let P : ℕ → Type 0 = λ y. L (y ∷ word) in subst P (sym e) it

module _ {L K : Language} where
  -- a nonempty word of a concatenation: its first part is empty, or has the first byte
  pub concat_cases : {b : ℕ} {word : List ℕ} → Concat L K (b ∷ word)
      → (L [] × K (b ∷ word))
      ⊎ ((left : List ℕ) × (right : List ℕ) × (word ≡ left ++ right) × L (b ∷ left) × K right)
  concat_cases {b = b} {word = word} it = by it.left it.right it.splits it.first it.second
    where
      by : (left right : List ℕ) → b ∷ word ≡ left ++ right → L left → K right
          → (L [] × K (b ∷ word))
          ⊎ ((left : List ℕ) × (right : List ℕ) × (word ≡ left ++ right) × L (b ∷ left) × K right)
      by [] right e one two = inl (one, subst K (sym e) two)
      by (x ∷ left) right e one two =
          inr (left, right, others_same e, renamed L (first_same e) one, two)

  pub concat : (left right : List ℕ) → L left → K right → Concat L K (left ++ right)
  concat left right one two =
      record { left = left; right = right; splits = refl; first = one; second = two }

  -- the derivative by a byte of the first part
  pub concat_first : {L' : Language} (b : ℕ) → Derivative L (b ∷ []) L' → (L [] → NeverStarts K b)
      → Derivative (Concat L K) (b ∷ []) (Concat L' K)
  concat_first {L' = L'} b goes disjoint = record {
    there = λ word it. record {
      left = b ∷ it.left;
      right = it.right;
      splits = ap (λ l. b ∷ l) it.splits;
      first = goes.there it.left it.first;
      second = it.second;
    };
    back = λ word it. by word (concat_cases it);
  }
    where
      by : (word : List ℕ) → (L [] × K (b ∷ word))
          ⊎ ((left : List ℕ) × (right : List ℕ) × (word ≡ left ++ right) × L (b ∷ left) × K right)
          → Concat L' K word
      by word (inl (one, two)) = absurd (disjoint one word two)
      by word (inr (left, right, e, one, two)) = record {
        left = left;
        right = right;
        splits = e;
        first = goes.back left one;
        second = two;
      }

  -- the derivative by a byte of the second part
  pub concat_second : {K' : Language} (b : ℕ) → NeverStarts L b → L [] → Derivative K (b ∷ []) K'
      → Derivative (Concat L K) (b ∷ []) K'
  concat_second {K' = K'} b never empty goes = record {
    there = λ word it. concat [] (b ∷ word) empty (goes.there word it);
    back = λ word it. by word (concat_cases it);
  }
    where
      by : (word : List ℕ) → (L [] × K (b ∷ word))
          ⊎ ((left : List ℕ) × (right : List ℕ) × (word ≡ left ++ right) × L (b ∷ left) × K right)
          → K' word
      by word (inl (one, two)) = goes.back word two
      by word (inr (left, right, e, one, two)) = absurd (never left one)

  -- no word starts with a byte of neither part
  pub concat_never : (b : ℕ) → NeverStarts L b → (L [] → NeverStarts K b)
      → NeverStarts (Concat L K) b
  concat_never b never disjoint word it = by (concat_cases it)
    where
      by : (L [] × K (b ∷ word))
          ⊎ ((left : List ℕ) × (right : List ℕ) × (word ≡ left ++ right) × L (b ∷ left) × K right)
          → ⊥
      by (inl (one, two)) = disjoint one word two
      by (inr (left, right, e, one, two)) = never left one

  pub concat_empty : Concat L K [] → L [] × K []
  concat_empty it = by it.left it.right it.splits it.first it.second
    where
      by : (left right : List ℕ) → [] ≡ left ++ right → L left → K right → L [] × K []
      by [] right e one two = (one, subst K (sym e) two)
      by (x ∷ left) right e one two = cc

  pub empty_concat : L [] → K [] → Concat L K []
  empty_concat one two = concat [] [] one two

  pub nonempty_first : HasNonEmpty L → (word : List ℕ) → K word → HasNonEmpty (Concat L K)
  nonempty_first (b, left, one) right two = (b, left ++ right, concat (b ∷ left) right one two)

  pub nonempty_second : (left : List ℕ) → L left → HasNonEmpty K → HasNonEmpty (Concat L K)
  nonempty_second [] one (b, right, two) = (b, right, concat [] (b ∷ right) one two)
  nonempty_second (x ∷ left) one (b, right, two) =
      (x, left ++ b ∷ right, concat (x ∷ left) (b ∷ right) one two)
