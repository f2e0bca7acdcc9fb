-- The grammar of data after their length.
use Rattle.std.specs.Prelude.{◌≡◌, ◌+◌, ◌⊎◌, ℕ, zero, suc, List, [], ◌∷◌, ◌++◌, Bool, true, false}
use Rattle.std.specs.Prelude.{IsTrue, None, ◌↔◌, ◌==◌, length}
use Rattle.std.proofs.Common.{◌∙◌, inl, inr, refl, sym, subst, ap, append_assoc, arith}
use Rattle.std.proofs.lemmas.Bool.{eq-eqb, eqb-false, eqb-true}
use Rattle.machines.specs.Concats.{concat, concat_cases, concat_empty, concat_first}
use Rattle.machines.specs.Grammar.{Grammar, HasEnded, IsStopped, Lawful, Passes, Path, Reaches}
use Rattle.machines.specs.Languages.{Concat, Derivative, HasNonEmpty, Language, NeverStarts}
use Rattle.machines.specs.Numbers.{AreNumerals, HasNoNext, HasValue, Numerals, OfLength}
use Rattle.machines.specs.Numbers.{PassesData, Reads, Steps, WithCount}
use Rattle.machines.specs.Paths.{path_both}
use Rattle.machines.specs.declared.counted.Count.{Count}
use Rattle.machines.specs.declared.counted.Count.TheVariants.{Data, Numeral}

abbrev pub CountedResidual : {S : Type 0} → Numerals S → Count S → Language
CountedResidual g (Numeral s) = WithCount (g.spells s)
CountedResidual g (Data n) = OfLength n

abbrev pub counted_grammar : {S : Type 0} → Numerals S → Grammar (Count S)
counted_grammar g = record {
  start = Numeral g.start;
  residual = CountedResidual g;
  firsts = g.firsts;
  nexts = λ _. false;
  nullable = false;
}

-- the word of `n` zero bytes
abbrev zeros : ℕ → List ℕ
zeros zero = []
zeros (suc n) = 0 ∷ zeros n

zeros_length : (n : ℕ) → length (zeros n) ≡ n
zeros_length zero = refl
zeros_length (suc n) = ap (λ x. suc x) (zeros_length n)

module _ {S : Type 0} (g : Numerals S) where
  data_step : (m n x : ℕ) → m ≡ suc n → Derivative (OfLength m) (x ∷ []) (OfLength n)
  data_step m n x e = record {
    there = λ word it. omega (arith, it, e);
    back = λ word it. omega (arith, it, e);
  }

  data_path : (m n : ℕ) (front : List ℕ) → m ≡ length front + n
      → Path (counted_grammar g) (Data m) front (Data n)
  data_path m n [] e = let f : ℕ → Count S = λ k. Data k in
      let same : m ≡ n = omega (arith, e) in ap f same
  data_path m n (x ∷ front) e = (
    Data (length front + n),
    data_step m (length front + n) x (omega (arith, e)),
    data_path (length front + n) n front refl,
  )

  data_stops : (more : ℕ) (left : List ℕ) → (more ≡ 0) ⊎ (left ≡ [])
      → IsStopped (OfLength more) left
  data_stops more [] why = tt
  data_stops more (x ∷ left) (inl none) = λ word it. omega (arith, it, none)
  data_stops more (x ∷ left) (inr e) = absurd (by e)
    where
      by : x ∷ left ≡ [] → ⊥
      by e = cc

  pub counted_data : (at : Count S) (size : ℕ) (bytes : List ℕ) (more : ℕ) (left : List ℕ)
      → at ≡ Data size → PassesData size bytes more left
      → Passes (counted_grammar g) at bytes (Data more) left
  counted_data at size bytes more left e it =
      let P : Count S → Type 0 = λ p. Passes (counted_grammar g) p bytes (Data more) left in
      subst P (sym e) (
        record {
          front = it.front;
          splits = it.splits;
          path = data_path size more it.front it.count;
        },
        data_stops more left it.stopped,
      )

module _ {S : Type 0} (g : Numerals S) (laws : AreNumerals g) where
  -- the derivative by a byte of the numeral
  numeral_step : (s t : S) (x : ℕ)
      → ((n : ℕ) → Derivative (g.spells s n) (x ∷ []) (g.spells t n))
      → Derivative (WithCount (g.spells s)) (x ∷ []) (WithCount (g.spells t))
  numeral_step s t x goes = record {
    there = λ word it. (it.0, (step it.0).there word it.1);
    back = λ word it. (it.0, (step it.0).back word it.1);
  }
    where
      step : (n : ℕ) → Derivative (Concat (g.spells s n) (OfLength n)) (x ∷ [])
          (Concat (g.spells t n) (OfLength n))
      step n = concat_first x (goes n) (λ empty. let (m, word, due) = laws.live t in
          absurd (laws.ended s n m x empty word ((goes m).there word due)))

  lift : (s t : S) (front : List ℕ) → Steps g s front t
      → Path (counted_grammar g) (Numeral s) front (Numeral t)
  lift s t [] e = let f : S → Count S = λ x. Numeral x in ap f e
  lift s t (x ∷ front) (next, goes, steps) =
      (Numeral next, numeral_step s next x goes, lift next t front steps)

  -- the derivative by the first byte of the data
  whole_step : (s : S) (n x : ℕ) → g.spells s (suc n) []
      → Derivative (WithCount (g.spells s)) (x ∷ []) (OfLength n)
  whole_step s n x empty = record {
    there = λ word it. (suc n, concat [] (x ∷ word) empty (ap (λ k. suc k) it));
    back = λ word it. by word it.0 (concat_cases it.1);
  }
    where
      by : (word : List ℕ) (m : ℕ) → (g.spells s m [] × OfLength m (x ∷ word))
          ⊎ ((left : List ℕ) × (right : List ℕ) × (word ≡ left ++ right)
          × g.spells s m (x ∷ left) × OfLength m right) → OfLength n word
      by word m (inl (one, size)) = omega (arith, size, laws.one s m (suc n) one empty)
      by word m (inr (left, right, e, one, size)) =
          absurd (laws.ended s (suc n) m x empty left one)

  in_numeral : (s t : S) (bytes left : List ℕ) → Reads g s bytes t left
      → Reaches (counted_grammar g) (Numeral s) bytes (Numeral t) left
  in_numeral s t bytes left it =
      record { front = it.front; splits = it.splits; path = lift s t it.front it.steps }

  -- the numeral is incomplete
  pub counted_waits : (at : Count S) (s t : S) (bytes left : List ℕ) → at ≡ Numeral s
      → Reads g s bytes t left → HasValue g t None
      → Passes (counted_grammar g) at bytes (Numeral t) left
  counted_waits at s t bytes left e it none =
      let P : Count S → Type 0 = λ p. Passes (counted_grammar g) p bytes (Numeral t) left in
      subst P (sym e) (in_numeral s t bytes left it, by left it.stopped)
    where
      by : (left : List ℕ) → HasNoNext g t left → IsStopped (WithCount (g.spells t)) left
      by [] stopped = tt
      by (x ∷ left) stopped = λ word in_it. never word in_it.0 (concat_cases in_it.1)
        where
          never : (word : List ℕ) (n : ℕ) → (g.spells t n [] × OfLength n (x ∷ word))
              ⊎ ((left : List ℕ) × (right : List ℕ) × (word ≡ left ++ right)
              × g.spells t n (x ∷ left) × OfLength n right) → ⊥
          never word n (inl (one, size)) = none n one
          never word n (inr (left, right, e, one, size)) = stopped n left one

  -- after the numeral of zero, no byte may come
  no_longer : (s : S) (n : ℕ) → g.spells s n [] → 0 ≡ n → (x : ℕ)
      → NeverStarts (WithCount (g.spells s)) x
  no_longer s n value none x word in_it = never in_it.0 (concat_cases in_it.1)
    where
      never : (m : ℕ) → (g.spells s m [] × OfLength m (x ∷ word))
          ⊎ ((left : List ℕ) × (right : List ℕ) × (word ≡ left ++ right)
          × g.spells s m (x ∷ left) × OfLength m right) → ⊥
      never m (inl (one, size)) = omega (arith, size, none, laws.one s m n one value)
      never m (inr (left, right, e, one, size)) = laws.ended s n m x value left one

  -- the numeral is complete, and no byte of data is next
  pub counted_stays : (at : Count S) (s t : S) (bytes left : List ℕ) (n : ℕ) → at ≡ Numeral s
      → Reads g s bytes t left → g.spells t n [] → (n ≡ 0) ⊎ (length left ≡ 0)
      → Passes (counted_grammar g) at bytes (Numeral t) left
  counted_stays at s t bytes left n e it value why =
      let P : Count S → Type 0 = λ p. Passes (counted_grammar g) p bytes (Numeral t) left in
      subst P (sym e) (in_numeral s t bytes left it, by left why)
    where
      by : (left : List ℕ) → (n ≡ 0) ⊎ (length left ≡ 0)
          → IsStopped (WithCount (g.spells t)) left
      by [] why = tt
      by (x ∷ left) (inr none) = absurd (omega (arith, none))
      by (x ∷ left) (inl none) = no_longer t n value (sym none) x

  -- the first byte of the data is next
  pub counted_turns : (at : Count S) (s t : S) (bytes left : List ℕ) (n more : ℕ)
      (rest : List ℕ) → at ≡ Numeral s → Reads g s bytes t left → g.spells t n []
      → (n ≡ 0 → ⊥) → (length left ≡ 0 → ⊥) → PassesData n left more rest
      → Passes (counted_grammar g) at bytes (Data more) rest
  counted_turns at s t bytes left n more rest e it value some bytes_left passes =
      let P : Count S → Type 0 = λ p. Passes (counted_grammar g) p bytes (Data more) rest in
      subst P (sym e) (
        by passes.front passes.splits passes.count,
        data_stops g more rest passes.stopped,
      )
    where
      by : (front : List ℕ) → left ≡ front ++ rest → n ≡ length front + more
          → Reaches (counted_grammar g) (Numeral s) bytes (Data more) rest
      by [] splits count = absurd (none passes.stopped)
        where
          none : (more ≡ 0) ⊎ (rest ≡ []) → ⊥
          none (inl zero_more) = some (omega (arith, count, zero_more))
          none (inr empty) = bytes_left (ap (λ l. length l) (splits ∙ empty))
      by (x ∷ front) splits count =
          let R : ℕ → Type 0 = λ k. g.spells t k [] in
          let size : n ≡ suc (length front + more) = omega (arith, count) in record {
            front = it.front ++ x ∷ front;
            splits = it.splits ∙ ap (λ l. it.front ++ l) splits
                ∙ sym (append_assoc it.front (x ∷ front) rest);
            path = path_both (counted_grammar g) (Numeral s) (Numeral t) (Data more) it.front
                (x ∷ front) (lift s t it.front it.steps) (
                  Data (length front + more),
                  whole_step t (length front + more) x (subst R size value),
                  data_path g (length front + more) more front refl,
                );
          }

  -- ---- complete words

  pub counted_done : (at : Count S) (s : S) (n : ℕ) → at ≡ Numeral s → g.spells s n []
      → IsTrue (n == 0) ↔ CountedResidual g at []
  counted_done at s n e value =
      let P : Count S → Type 0 = λ p. IsTrue (n == 0) ↔ CountedResidual g p [] in
      subst P (sym e) (
        λ is. (n, concat [] [] value (sym (eqb-true n 0 is))),
        λ it. let (one, size) = concat_empty it.1 in
            eq-eqb n 0 (laws.one s n it.0 value one ∙ sym size),
      )

  pub counted_undone : (at : Count S) (s : S) → at ≡ Numeral s → HasValue g s None
      → IsTrue false ↔ CountedResidual g at []
  counted_undone at s e none =
      let P : Count S → Type 0 = λ p. IsTrue false ↔ CountedResidual g p [] in
      subst P (sym e) (λ is. absurd (by is), λ it. absurd (none it.0 (concat_empty it.1).0))
    where
      by : IsTrue false → ⊥
      by is = cc

  pub data_done : (at : Count S) (n : ℕ) → at ≡ Data n → IsTrue (n == 0) ↔ CountedResidual g at []
  data_done at n e =
      let P : Count S → Type 0 = λ p. IsTrue (n == 0) ↔ CountedResidual g p [] in
      subst P (sym e) (λ is. sym (eqb-true n 0 is), λ it. eq-eqb n 0 (sym it))

  -- ---- longer words

  never_of_none : (x : ℕ) → NeverStarts (OfLength 0) x
  never_of_none x word it = cc

  more_of : (n : ℕ) → (n ≡ 0 → ⊥) → HasNonEmpty (OfLength n)
  more_of zero some = absurd (some refl)
  more_of (suc n) some = (0, zeros n, ap (λ k. suc k) (zeros_length n))

  pub data_over : (at : Count S) (n : ℕ) → at ≡ Data n → HasEnded (counted_grammar g) at (n == 0)
  data_over at n e =
      let P : Count S → Type 0 = λ p. HasEnded (counted_grammar g) p (n == 0) in
      subst P (sym e) (by (n == 0) refl)
    where
      by : (p : Bool) → (n == 0) ≡ p → HasEnded (counted_grammar g) (Data n) p
      by true none = λ x. let R : ℕ → Type 0 = λ k. NeverStarts (OfLength k) x in
          subst R (sym (eqb-true n 0 none)) (never_of_none x)
      by false some = more_of n (eqb-false n 0 some)

  pub counted_over : (at : Count S) (s : S) (n : ℕ) → at ≡ Numeral s → g.spells s n []
      → HasEnded (counted_grammar g) at (n == 0)
  counted_over at s n e value =
      let P : Count S → Type 0 = λ p. HasEnded (counted_grammar g) p (n == 0) in
      subst P (sym e) (by (n == 0) refl)
    where
      by : (p : Bool) → (n == 0) ≡ p → HasEnded (counted_grammar g) (Numeral s) p
      by true none = no_longer s n value (sym (eqb-true n 0 none))
      by false some = let (x, word, size) = more_of n (eqb-false n 0 some) in
          (x, word, (n, concat [] (x ∷ word) value size))

  pub counted_open : (at : Count S) (s : S) → at ≡ Numeral s → HasValue g s None
      → HasEnded (counted_grammar g) at false
  counted_open at s e none =
      let P : Count S → Type 0 = λ p. HasEnded (counted_grammar g) p false in
      subst P (sym e) (let (n, word, due) = laws.live s in by n word due)
    where
      by : (n : ℕ) (word : List ℕ) → g.spells s n word → HasNonEmpty (WithCount (g.spells s))
      by n [] due = absurd (none n due)
      by n (x ∷ word) due =
          (x, word ++ zeros n, (n, concat (x ∷ word) (zeros n) due (zeros_length n)))

  pub counted_lawful : Lawful (counted_grammar g)
  counted_lawful = record {
    first = λ x word it. first x word it.0 (concat_cases it.1);
    next = next;
    null = λ it. absurd (laws.filled it.0 (concat_empty it.1).0);
    live = live;
  }
    where
      first : (x : ℕ) (word : List ℕ) (n : ℕ) → (g.spells g.start n [] × OfLength n (x ∷ word))
          ⊎ ((left : List ℕ) × (right : List ℕ) × (word ≡ left ++ right)
          × g.spells g.start n (x ∷ left) × OfLength n right) → IsTrue (g.firsts x)
      first x word n (inl (one, size)) = absurd (laws.filled n one)
      first x word n (inr (left, right, e, one, size)) = laws.first n x left one

      next : (at : Count S) (x : ℕ) (word : List ℕ) → CountedResidual g at []
          → CountedResidual g at (x ∷ word) → IsTrue false
      next (Data n) x word it more = absurd (omega (arith, it, more))
      next (Numeral s) x word it more = let (value, size) = concat_empty it.1 in
          absurd (no_longer s it.0 value size x word more)

      live : (at : Count S) → (word : List ℕ) × CountedResidual g at word
      live (Data n) = (zeros n, zeros_length n)
      live (Numeral s) = let (n, word, due) = laws.live s in
          (word ++ zeros n, (n, concat word (zeros n) due (zeros_length n)))
