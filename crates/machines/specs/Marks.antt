-- Lemmas on numerals of digits, with a mark after them.
use Rattle.std.specs.Prelude.{◌≡◌, ◌≤◌, ◌<◌, ◌+◌, ◌*◌, ◌⊎◌, ℕ, List, [], ◌∷◌, ◌++◌}
use Rattle.std.specs.Prelude.{false, IsTrue, Some, None, length}
use Rattle.std.proofs.Common.{◌∙◌, inl, inr, refl, sym, subst, ap, append_assoc, arith}
use Rattle.machines.specs.Bounds.{disjoint_by}
use Rattle.machines.specs.Concats.{concat, concat_cases, concat_empty, concat_first}
use Rattle.machines.specs.Digits.{AreDigits, DigitSet, DigitsOf, HasNoDigit, IsNumberWith}
use Rattle.machines.specs.Digits.{NumeralOf}
use Rattle.machines.specs.Digits.{ReadsDigits, Spells, digit_numerals, keeps, too_large}
use Rattle.machines.specs.Grammar.{AreDisjoint, Grammar, IsStopped, Lawful, Passes, Path}
use Rattle.machines.specs.Languages.{AreBytes, Concat, Derivative, NeverStarts}
use Rattle.machines.specs.Numbers.{AreNumerals, HasNoNext, HasValue, Numerals, Reads, Steps}
use Rattle.machines.specs.Paths.{below_back, below_front, stuck}
use Rattle.machines.specs.declared.digits.Stage.{Stage}
use Rattle.machines.specs.declared.digits.Stage.TheVariants.{Digits, Mark, Start}

module _ {S : Type 0} (g : Numerals S) where
  steps_both : (from mid to : S) (front end : List ℕ) → Steps g from front mid
      → Steps g mid end to → Steps g from (front ++ end) to
  steps_both from mid to [] end one two =
      let P : S → Type 0 = λ s. Steps g s end to in subst P (sym one) two
  steps_both from mid to (b ∷ front) end (next, goes, one) two =
      (next, goes, steps_both next mid to front end one two)

module _ {S : Type 0} (d : DigitSet) (limit : ℕ) (g : Grammar S) (ld : AreDigits d)
    (lg : Lawful g) (filled : g.nullable ≡ false) (disjoint : AreDisjoint d.has g.firsts) where
  solid : g.residual g.start [] → ⊥
  solid it = let e = lg.null it in cc

  digit_step : (v w x n : ℕ) → IsTrue (d.has x) → v * d.radix + d.value x ≡ w
      → Derivative (DigitsOf d v n) (x ∷ []) (DigitsOf d w n)
  digit_step v w x n is e = record {
    there = λ word it.
        let P : ℕ → Type 0 = λ k. DigitsOf d k n word in (is, subst P (sym e) it);
    back = λ word it. let P : ℕ → Type 0 = λ k. DigitsOf d k n word in subst P e it.1;
  }

  no_mark : (x : ℕ) → x < 256 → IsTrue (d.has x) → NeverStarts (g.residual g.start) x
  no_mark x low is word it = disjoint_by d.has g.firsts disjoint x low is (lg.first x word it)

  -- the derivative by a digit after others
  in_digits : (v w x : ℕ) → x < 256 → IsTrue (d.has x) → v * d.radix + d.value x ≡ w → w ≤ limit
      → (n : ℕ) → Derivative (Spells d limit g (Digits v) n) (x ∷ [])
      (Spells d limit g (Digits w) n)
  in_digits v w x low is e small n = record {
    there = λ word it. (allowed it.0, step.there word it.1);
    back = λ word it. (kept it.0, step.back word it.1);
  }
    where
      step : Derivative (Concat (DigitsOf d v n) (g.residual g.start)) (x ∷ [])
          (Concat (DigitsOf d w n) (g.residual g.start))
      step = concat_first x (digit_step v w x n is e) (λ empty. no_mark x low is)

      allowed : (n ≤ limit) ⊎ (n ≤ w) → (n ≤ limit) ⊎ (n ≤ v)
      allowed (inl it) = inl it
      allowed (inr it) = inl (omega (arith, it, small))

      kept : (n ≤ limit) ⊎ (n ≤ v) → (n ≤ limit) ⊎ (n ≤ w)
      kept (inl it) = inl it
      kept (inr it) = inr (omega (arith, it, e, keeps v d.radix (d.value x) ld.two))

  -- the derivative by the first digit
  at_digit : (w x : ℕ) → x < 256 → IsTrue (d.has x) → 0 * d.radix + d.value x ≡ w → w ≤ limit
      → (n : ℕ) → Derivative (Spells d limit g Start n) (x ∷ []) (Spells d limit g (Digits w) n)
  at_digit w x low is e small n = record {
    there = λ word it. (allowed it.0, step.there word it.1);
    back = λ word it. (inl it.0, step.back word it.1);
  }
    where
      first : Derivative (NumeralOf d n) (x ∷ []) (DigitsOf d w n)
      first = let step = digit_step 0 w x n is e in
          record { there = λ word it. step.there word it; back = λ word it. step.back word it }

      step : Derivative (Concat (NumeralOf d n) (g.residual g.start)) (x ∷ [])
          (Concat (DigitsOf d w n) (g.residual g.start))
      step = concat_first x first (λ empty. absurd empty)

      allowed : (n ≤ limit) ⊎ (n ≤ w) → n ≤ limit
      allowed (inl it) = it
      allowed (inr it) = omega (arith, it, small)

  -- the derivative by the first byte of the mark
  at_mark : (v x : ℕ) (t : S) → x < 256 → Derivative (g.residual g.start) (x ∷ []) (g.residual t)
      → (n : ℕ) → Derivative (Spells d limit g (Digits v) n) (x ∷ [])
      (Spells d limit g (Mark v t) n)
  at_mark v x t low goes n = record {
    there = λ word it. (
      inr (omega (arith, it.0)),
      concat [] (x ∷ word) it.0 (goes.there word it.1),
    );
    back = λ word it. by word (concat_cases it.1);
  }
    where
      first : IsTrue (g.firsts x)
      first = let (word, rest) = lg.live t in lg.first x word (goes.there word rest)

      by : (word : List ℕ) → (DigitsOf d v n [] × g.residual g.start (x ∷ word))
          ⊎ ((left : List ℕ) × (right : List ℕ) × (word ≡ left ++ right)
          × DigitsOf d v n (x ∷ left) × g.residual g.start right)
          → Spells d limit g (Mark v t) n word
      by word (inl (e, it)) = (e, goes.back word it)
      by word (inr (left, right, e, one, two)) =
          absurd (disjoint_by d.has g.firsts disjoint x low one.0 first)

  in_mark : (v : ℕ) (s t : S) (front : List ℕ) → Path g s front t
      → Steps (digit_numerals d limit g) (Mark v s) front (Mark v t)
  in_mark v s t [] e = let f : S → Stage S = λ x. Mark v x in ap f e
  in_mark v s t (x ∷ front) (next, goes, path) = (
    Mark v next,
    λ n. record {
      there = λ word it. (it.0, goes.there word it.1);
      back = λ word it. (it.0, goes.back word it.1);
    },
    in_mark v next t front path,
  )

  mark_stops : (v : ℕ) (t : S) (left : List ℕ) → IsStopped (g.residual t) left
      → HasNoNext (digit_numerals d limit g) (Mark v t) left
  mark_stops v t [] stopped = tt
  mark_stops v t (x ∷ left) stopped = λ n word it. stopped word it.1

  -- in the mark
  pub reads_mark : (at : Stage S) (v : ℕ) (s t : S) (bytes left : List ℕ) → at ≡ Mark v s
      → Passes g s bytes t left → Reads (digit_numerals d limit g) at bytes (Mark v t) left
  reads_mark at v s t bytes left e (it, stopped) =
      let P : Stage S → Type 0 = λ p. Reads (digit_numerals d limit g) p bytes (Mark v t) left in
      subst P (sym e) (record {
        front = it.front;
        splits = it.splits;
        steps = in_mark v s t it.front it.path;
        stopped = mark_stops v t left stopped;
      })

  -- no numeral continues with a byte of neither a digit nor the mark
  digits_stop : (v : ℕ) (left : List ℕ) → HasNoDigit d limit v left
      → IsStopped (g.residual g.start) left
      → HasNoNext (digit_numerals d limit g) (Digits v) left
  digits_stop v [] none stopped = tt
  digits_stop v (x ∷ left) none stopped = λ n word it. by n word it.0 (concat_cases it.1)
    where
      by : (n : ℕ) (word : List ℕ) → (n ≤ limit) ⊎ (n ≤ v)
          → (DigitsOf d v n [] × g.residual g.start (x ∷ word))
          ⊎ ((left : List ℕ) × (right : List ℕ) × (word ≡ left ++ right)
          × DigitsOf d v n (x ∷ left) × g.residual g.start right) → ⊥
      by n word small (inl (e, it)) = stopped word it
      by n word small (inr (left, right, e, one, two)) =
          too_large d ld limit v n x left (none one.0) small one

  start_stops : (left : List ℕ) → HasNoDigit d limit 0 left
      → HasNoNext (digit_numerals d limit g) Start left
  start_stops [] none = tt
  start_stops (x ∷ left) none = λ n word it. by n word it.0 (concat_cases it.1)
    where
      by : (n : ℕ) (word : List ℕ) → n ≤ limit
          → (NumeralOf d n [] × g.residual g.start (x ∷ word))
          ⊎ ((left : List ℕ) × (right : List ℕ) × (word ≡ left ++ right)
          × NumeralOf d n (x ∷ left) × g.residual g.start right) → ⊥
      by n word small (inl (e, it)) = absurd e
      by n word small (inr (left, right, e, one, two)) =
          too_large d ld limit 0 n x left (none one.0) (inl small) one

  -- after the digits, the mark does not start
  pub reads_no_mark : (v : ℕ) (s t : S) (bytes left : List ℕ) → s ≡ g.start
      → HasNoDigit d limit v bytes → Passes g s bytes t left → length left ≡ length bytes
      → Reads (digit_numerals d limit g) (Digits v) bytes (Digits v) bytes
  reads_no_mark v s t bytes left f none passes same = record {
    front = [];
    splits = refl;
    steps = refl;
    stopped = digits_stop v bytes none (stuck g s t bytes left f passes same);
  }

  -- after the digits, the mark starts
  pub reads_some_mark : (v : ℕ) (s t : S) (bytes left : List ℕ) → s ≡ g.start → AreBytes bytes
      → Passes g s bytes t left → (length left ≡ length bytes → ⊥)
      → Reads (digit_numerals d limit g) (Digits v) bytes (Mark v t) left
  reads_some_mark v s t bytes left f low (it, stopped) more =
      let P : S → Type 0 = λ p. Path g p it.front t in record {
        front = it.front;
        splits = it.splits;
        steps = by it.front it.splits (below_front it.front left bytes it.splits low)
            (subst P f it.path);
        stopped = mark_stops v t left stopped;
      }
    where
      by : (front : List ℕ) → bytes ≡ front ++ left → AreBytes front → Path g g.start front t
          → Steps (digit_numerals d limit g) (Digits v) front (Mark v t)
      by [] splits low path = absurd (more (sym (ap (λ l. length l) splits)))
      by (x ∷ front) splits (first, lows) (next, goes, path) =
          (Mark v next, at_mark v x next first goes, in_mark v next t front path)

  -- ---- the digits

  -- one more digit in a loop
  pub more_digits : (u v w x : ℕ) (bytes front rest others : List ℕ) → bytes ≡ front ++ rest
      → rest ≡ x ∷ others → AreBytes bytes
      → Steps (digit_numerals d limit g) (Digits u) front (Digits v)
      → IsNumberWith d limit v x (Some w) → (end : List ℕ) × (bytes ≡ end ++ others)
      × Steps (digit_numerals d limit g) (Digits u) end (Digits w)
  more_digits u v w x bytes front rest others splits first low steps (is, e, small) =
      let bytes_of_rest = below_back front rest bytes splits low in
      let (here, lows) = subst AreBytes first bytes_of_rest in (
        front ++ x ∷ [],
        splits ∙ ap (λ l. front ++ l) first ∙ sym (append_assoc front (x ∷ []) others),
        steps_both (digit_numerals d limit g) (Digits u) (Digits v) (Digits w) front (x ∷ []) steps
            (Digits w, in_digits v w x here is e small, refl),
      )

  -- after the digits, what follows them
  pub reads_digits : (at : Stage S) (u v : ℕ) (to : Stage S) (bytes middle left : List ℕ)
      → at ≡ Digits u → ReadsDigits d limit g u bytes v middle
      → Reads (digit_numerals d limit g) (Digits v) middle to left
      → Reads (digit_numerals d limit g) at bytes to left
  reads_digits at u v to bytes middle left e one two =
      let P : Stage S → Type 0 = λ p. Reads (digit_numerals d limit g) p bytes to left in
      subst P (sym e) (record {
        front = one.front ++ two.front;
        splits = one.splits ∙ ap (λ l. one.front ++ l) two.splits
            ∙ sym (append_assoc one.front two.front left);
        steps = steps_both (digit_numerals d limit g) (Digits u) (Digits v) to one.front two.front
            one.steps two.steps;
        stopped = two.stopped;
      })

  -- the first digit, and what follows it
  pub reads_first : (at : Stage S) (x v : ℕ) (to : Stage S) (bytes rest left : List ℕ)
      → at ≡ Start → bytes ≡ x ∷ rest → x < 256 → IsNumberWith d limit 0 x (Some v)
      → Reads (digit_numerals d limit g) (Digits v) rest to left
      → Reads (digit_numerals d limit g) at bytes to left
  reads_first at x v to bytes rest left e f low (is, value, small) it =
      let P : Stage S → Type 0 = λ p. Reads (digit_numerals d limit g) p bytes to left in
      subst P (sym e) (record {
        front = x ∷ it.front;
        splits = f ∙ ap (λ l. x ∷ l) it.splits;
        steps = (Digits v, at_digit v x low is value small, it.steps);
        stopped = it.stopped;
      })

  pub reads_nothing : (at : Stage S) (bytes : List ℕ) → at ≡ Start → HasNoDigit d limit 0 bytes
      → Reads (digit_numerals d limit g) at bytes at bytes
  reads_nothing at bytes e none =
      let P : Stage S → Type 0 = λ p. Reads (digit_numerals d limit g) p bytes p bytes in
      subst P (sym e)
      (record { front = []; splits = refl; steps = refl; stopped = start_stops bytes none })

  -- ---- the number

  pub no_value : (at : Stage S) → (at ≡ Start) ⊎ ((v : ℕ) × (at ≡ Digits v))
      → HasValue (digit_numerals d limit g) at None
  no_value at (inl e) =
      let P : Stage S → Type 0 = λ p. HasValue (digit_numerals d limit g) p None in
      subst P (sym e) (λ n it. absurd (concat_empty it.1).0)
  no_value at (inr (v, e)) =
      let P : Stage S → Type 0 = λ p. HasValue (digit_numerals d limit g) p None in
      subst P (sym e) (λ n it. solid (concat_empty it.1).1)

  pub digit_lawful : ((b : ℕ) → g.nexts b ≡ false) → AreNumerals (digit_numerals d limit g)
  digit_lawful ended = record {
    first = λ n b word it. first n b word (concat_cases it.1);
    filled = λ n it. (concat_empty it.1).0;
    one = one;
    ended = ends;
    live = live;
  }
    where
      first : (n b : ℕ) (word : List ℕ) → (NumeralOf d n [] × g.residual g.start (b ∷ word))
          ⊎ ((left : List ℕ) × (right : List ℕ) × (word ≡ left ++ right)
          × NumeralOf d n (b ∷ left) × g.residual g.start right) → IsTrue (d.has b)
      first n b word (inl (none, it)) = absurd none
      first n b word (inr (left, right, e, it, two)) = it.0

      one : (at : Stage S) (n m : ℕ) → Spells d limit g at n [] → Spells d limit g at m [] → n ≡ m
      one Start n m it also = absurd (concat_empty it.1).0
      one (Digits v) n m it also = absurd (solid (concat_empty it.1).1)
      one (Mark v s) n m it also = sym it.0 ∙ also.0

      ends : (at : Stage S) (n m b : ℕ) → Spells d limit g at n []
          → NeverStarts (Spells d limit g at m) b
      ends Start n m b it word also = (concat_empty it.1).0
      ends (Digits v) n m b it word also = solid (concat_empty it.1).1
      ends (Mark v s) n m b it word also =
          let next = lg.next s b word it.1 also.1 in
          let none = ended b in cc

      live : (at : Stage S) → (n : ℕ) × (word : List ℕ) × Spells d limit g at n word
      live Start =
          let (mark, it) = lg.live g.start in
          let zero : 0 * d.radix + d.value ld.zero_digit ≡ 0 = omega (arith, ld.is_zero) in (
            0,
            ld.zero_digit ∷ mark,
            (omega arith, concat (ld.zero_digit ∷ []) mark (ld.is_digit, zero) it),
          )
      live (Digits v) = let (mark, it) = lg.live g.start in
          (v, mark, (inr (omega arith), concat [] mark refl it))
      live (Mark v s) = let (word, it) = lg.live s in (v, word, (refl, it))
