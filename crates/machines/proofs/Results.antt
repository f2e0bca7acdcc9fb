-- The results of a scan exclude each other.
use Rattle.std.proofs.Common.{◌≡◌, ◌⊎◌, ◌∙◌, ◌++◌, ◌∷◌, [], ap, inl, inr, ℕ, List, length}
use Rattle.std.proofs.Common.{append_assoc, refl, subst, sym}
use Rattle.std.proofs.lemmas.List.{append-nil}
use Rattle.std.specs.Prelude.{Err, None, Ok, Option, Result, Some}
use Rattle.machines.specs.Concats.{first_same, others_same}
use Rattle.machines.specs.Grammar.{FirstInvalid, LongestWord, NoneLonger, Scanned}
use Rattle.machines.specs.Languages.{Language}

-- `long` is `short` and more bytes, and `rest` starts with the first of these.
record Longer (short rest long : List ℕ) : Type 0 where
  byte : ℕ
  word : List ℕ
  more : List ℕ
  grown : long ≡ short ++ byte ∷ word
  begins : rest ≡ byte ∷ more

-- of two prefixes of the same bytes, one is a prefix of the other
compare : (one two rest more : List ℕ) → one ++ rest ≡ two ++ more
    → (one ≡ two) ⊎ Longer one rest two ⊎ Longer two more one
compare [] [] rest more e = inl refl
compare [] (b ∷ two) rest more e = inr (inl (record {
  byte = b;
  word = two;
  more = two ++ more;
  grown = refl;
  begins = e;
}))
compare (b ∷ one) [] rest more e = inr (inr (record {
  byte = b;
  word = one;
  more = one ++ rest;
  grown = refl;
  begins = sym e;
}))
compare (b ∷ one) (c ∷ two) rest more e =
    by (first_same e) (compare one two rest more (others_same e))
  where
    by : b ≡ c → (one ≡ two) ⊎ Longer one rest two ⊎ Longer two more one
        → (b ∷ one ≡ c ∷ two) ⊎ Longer (b ∷ one) rest (c ∷ two) ⊎ Longer (c ∷ two) more (b ∷ one)
    by same (inl e) = inl (ap (λ x. x ∷ one) same ∙ ap (λ l. c ∷ l) e)
    by same (inr (inl it)) = inr (inl (record {
      byte = it.byte;
      word = it.word;
      more = it.more;
      grown = ap (λ x. x ∷ two) (sym same) ∙ ap (λ l. b ∷ l) it.grown;
      begins = it.begins;
    }))
    by same (inr (inr it)) = inr (inr (record {
      byte = it.byte;
      word = it.word;
      more = it.more;
      grown = ap (λ x. x ∷ one) same ∙ ap (λ l. c ∷ l) it.grown;
      begins = it.begins;
    }))

module _ (L : Language) where
  -- no word starts with the prefix and the next byte
  no_word : (short rest long tail : List ℕ) → Longer short rest long
      → ((word : List ℕ) (byte : ℕ) (more : List ℕ) → rest ≡ byte ∷ more
      → L (short ++ byte ∷ word) → ⊥) → L (long ++ tail) → ⊥
  no_word short rest long tail it never in_it =
      let e : long ++ tail ≡ short ++ it.byte ∷ (it.word ++ tail) =
      ap (λ l. l ++ tail) it.grown ∙ append_assoc short (it.byte ∷ it.word) tail in
      never (it.word ++ tail) it.byte it.more it.begins (subst L e in_it)

  longest_stops : (short rest : List ℕ) → NoneLonger L short rest → (word : List ℕ) (byte : ℕ)
      (more : List ℕ) → rest ≡ byte ∷ more → L (short ++ byte ∷ word) → ⊥
  longest_stops short rest longest word byte more e =
      let P : List ℕ → Type 0 = λ l. NoneLonger L short l in subst P e longest word

  invalid_stops : (short : List ℕ) (wrong : ℕ) (left : List ℕ)
      → ((word : List ℕ) → L (short ++ wrong ∷ word) → ⊥) → (word : List ℕ) (byte : ℕ)
      (more : List ℕ) → wrong ∷ left ≡ byte ∷ more → L (short ++ byte ∷ word) → ⊥
  invalid_stops short wrong left never word byte more e in_it =
      let P : ℕ → Type 0 = λ x. L (short ++ x ∷ word) in
      never word (subst P (sym (first_same e)) in_it)

  whole : (word : List ℕ) → L word → L (word ++ [])
  whole word in_it = subst L (sym (append-nil word)) in_it

  two_words : (bytes : List ℕ) (n m : ℕ) → LongestWord L bytes n → LongestWord L bytes m → n ≡ m
  two_words bytes n m one two =
      by (compare one.front two.front one.left two.left (sym one.splits ∙ two.splits))
    where
      by : (one.front ≡ two.front) ⊎ Longer one.front one.left two.front
          ⊎ Longer two.front two.left one.front → n ≡ m
      by (inl e) = sym one.size ∙ ap (λ l. length l) e ∙ two.size
      by (inr (inl it)) = absurd (no_word one.front one.left two.front [] it
          (longest_stops one.front one.left one.longest) (whole two.front two.word))
      by (inr (inr it)) = absurd (no_word two.front two.left one.front [] it
          (longest_stops two.front two.left two.longest) (whole one.front one.word))

  word_and_more : (bytes : List ℕ) (n : ℕ) → LongestWord L bytes n → (b : ℕ) (word : List ℕ)
      → L (bytes ++ b ∷ word) → ⊥
  word_and_more bytes n one b word in_it =
      by one.left one.longest (subst L (ap (λ l. l ++ b ∷ word) one.splits
      ∙ append_assoc one.front one.left (b ∷ word)) in_it)
    where
      by : (left : List ℕ) → NoneLonger L one.front left → L (one.front ++ (left ++ b ∷ word)) → ⊥
      by [] longest in_it = longest b word in_it
      by (c ∷ left) longest in_it = longest (left ++ b ∷ word) in_it

  word_and_invalid : (bytes : List ℕ) (n m : ℕ) → LongestWord L bytes n → FirstInvalid L bytes m
      → ⊥
  word_and_invalid bytes n m one two =
      by (compare one.front two.front one.left (two.byte ∷ two.left) (sym one.splits ∙ two.splits))
    where
      by : (one.front ≡ two.front) ⊎ Longer one.front one.left two.front
          ⊎ Longer two.front (two.byte ∷ two.left) one.front → ⊥
      by (inl e) = two.none (subst L e one.word)
      by (inr (inl it)) = no_word one.front one.left two.front two.more it
          (longest_stops one.front one.left one.longest) two.live
      by (inr (inr it)) = no_word two.front (two.byte ∷ two.left) one.front [] it
          (invalid_stops two.front two.byte two.left two.never) (whole one.front one.word)

  more_and_invalid : (bytes : List ℕ) (m : ℕ) → FirstInvalid L bytes m → (b : ℕ) (word : List ℕ)
      → L (bytes ++ b ∷ word) → ⊥
  more_and_invalid bytes m two b word in_it = two.never (two.left ++ b ∷ word)
      (subst L (ap (λ l. l ++ b ∷ word) two.splits
      ∙ append_assoc two.front (two.byte ∷ two.left) (b ∷ word)) in_it)

  two_invalid : (bytes : List ℕ) (n m : ℕ) → FirstInvalid L bytes n → FirstInvalid L bytes m
      → n ≡ m
  two_invalid bytes n m one two = by (compare one.front two.front (one.byte ∷ one.left)
      (two.byte ∷ two.left) (sym one.splits ∙ two.splits))
    where
      by : (one.front ≡ two.front) ⊎ Longer one.front (one.byte ∷ one.left) two.front
          ⊎ Longer two.front (two.byte ∷ two.left) one.front → n ≡ m
      by (inl e) = sym one.size ∙ ap (λ l. length l) e ∙ two.size
      by (inr (inl it)) = absurd (no_word one.front (one.byte ∷ one.left) two.front two.more it
          (invalid_stops one.front one.byte one.left one.never) two.live)
      by (inr (inr it)) = absurd (no_word two.front (two.byte ∷ two.left) one.front one.more it
          (invalid_stops two.front two.byte two.left two.never) one.live)

  pub one_result : (bytes : List ℕ) (one other : Result (Option ℕ) ℕ) → Scanned L bytes one
      → Scanned L bytes other → one ≡ other
  one_result bytes (Ok (Some n)) (Ok (Some m)) p q =
      let f : ℕ → Result (Option ℕ) ℕ = λ x. Ok (Some x) in ap f (two_words bytes n m p q)
  one_result bytes (Ok (Some n)) (Ok None) p q = absurd (word_and_more bytes n p q.0 q.1 q.2)
  one_result bytes (Ok (Some n)) (Err m) p q = absurd (word_and_invalid bytes n m p q)
  one_result bytes (Ok None) (Ok (Some m)) p q = absurd (word_and_more bytes m q p.0 p.1 p.2)
  one_result bytes (Ok None) (Ok None) p q = refl
  one_result bytes (Ok None) (Err m) p q = absurd (more_and_invalid bytes m q p.0 p.1 p.2)
  one_result bytes (Err n) (Ok (Some m)) p q = absurd (word_and_invalid bytes m n q p)
  one_result bytes (Err n) (Ok None) p q = absurd (more_and_invalid bytes n p q.0 q.1 q.2)
  one_result bytes (Err n) (Err m) p q =
      let f : ℕ → Result (Option ℕ) ℕ = λ x. Err x in ap f (two_invalid bytes n m p q)
