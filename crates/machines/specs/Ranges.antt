-- The grammar of words in a range of counts.
use Rattle.std.specs.Prelude.{◌≡◌, ◌≤◌, ◌⊎◌, ◌+◌, ◌<◌, ℕ, zero, suc, List, [], ◌∷◌, ◌++◌}
use Rattle.std.specs.Prelude.{Bool, true, false, IsTrue, Option, Some, None, ◌||◌, ◌==◌, ◌↔◌}
use Rattle.std.specs.Prelude.{length}
use Rattle.std.proofs.Common.{inl, inr, refl, sym, subst, ap, arith}
use Rattle.std.proofs.lemmas.Bool.{eq-eqb}
use Rattle.machines.specs.Bounds.{disjoint_by, or_left, or_right}
use Rattle.machines.specs.Concats.{concat, concat_cases, concat_empty, concat_first, concat_never}
use Rattle.machines.specs.Concats.{concat_second, empty_concat, nonempty_first, nonempty_second}
use Rattle.machines.specs.Grammar.{AreDisjoint, Grammar, HasEnded, IsStopped, Lawful, Passes, Path}
use Rattle.machines.specs.Grammar.{Reaches}
use Rattle.machines.specs.Languages.{AreBytes, Concat, Derivative, HasNonEmpty, Language}
use Rattle.machines.specs.Languages.{NeverStarts, Power}
use Rattle.machines.specs.Paths.{below_front, reaches_both, stuck}
use Rattle.machines.specs.Stars.{InnerDone, InnerStopped, Stays, stays}
use Rattle.machines.specs.declared.times.Turn.{Turn}

-- `Between L least extra`: at least `least` words of `L` in sequence, and at most `extra` more.
abbrev pub Between : Language → ℕ → ℕ → Language
Between L least extra bytes = (n : ℕ) × (least ≤ n) × (n ≤ least + extra) × Power L n bytes

abbrev pub TurnResidual : {A : Type 0} → Grammar A → ℕ → ℕ → Option A → Language
TurnResidual a least extra None = Between (a.residual a.start) least extra
TurnResidual a least extra (Some s) =
    Concat (a.residual s) (Between (a.residual a.start) least extra)

abbrev pub times_grammar : {A : Type 0} → Grammar A → ℕ → ℕ → Grammar (Turn A)
times_grammar a least extra = record {
  start = record { least = least; extra = extra; inner = None };
  residual = λ at. TurnResidual a at.least at.extra at.inner;
  firsts = a.firsts;
  nexts = λ x. a.nexts x || a.firsts x;
  nullable = least == 0;
}

-- the counts after one more word, if it may come
abbrev pub IsOneLess : ℕ → ℕ → Option (ℕ × ℕ) → Type 0
IsOneLess least extra None = (least ≡ 0) × (extra ≡ 0)
IsOneLess least extra (Some to) = ((least ≡ suc to.0) × (extra ≡ to.1))
    ⊎ ((least ≡ 0) × (to.0 ≡ 0) × (extra ≡ suc to.1))

abbrev turn : {A : Type 0} → ℕ → ℕ → Option A → Turn A
turn least extra inner = record { least = least; extra = extra; inner = inner }

module _ {A : Type 0} (a : Grammar A) (la : Lawful a) (filled : a.nullable ≡ false)
    (disjoint : AreDisjoint a.nexts a.firsts) (start_least start_extra : ℕ) where
  solid : a.residual a.start [] → ⊥
  solid it = let e = la.null it in cc

  -- a nonempty word: its first word, and the others
  abbrev FirstOf : ℕ → ℕ → ℕ → List ℕ → Type 0
  FirstOf least extra x word = (m : ℕ) × (least ≤ suc m) × (suc m ≤ least + extra)
      × (left : List ℕ) × (right : List ℕ) × (word ≡ left ++ right)
      × a.residual a.start (x ∷ left) × Power (a.residual a.start) m right

  between_cases : (least extra x : ℕ) (word : List ℕ)
      → Between (a.residual a.start) least extra (x ∷ word) → FirstOf least extra x word
  between_cases least extra x word (zero, low, high, e) = cc
  between_cases least extra x word (suc m, low, high, it) = by (concat_cases it)
    where
      by : (a.residual a.start [] × Power (a.residual a.start) m (x ∷ word))
          ⊎ ((left : List ℕ) × (right : List ℕ) × (word ≡ left ++ right)
          × a.residual a.start (x ∷ left) × Power (a.residual a.start) m right)
          → FirstOf least extra x word
      by (inl (empty, two)) = absurd (solid empty)
      by (inr (left, right, e, one, two)) = (m, low, high, left, right, e, one, two)

  between_step : (least extra l e x : ℕ) (K : Language) → IsOneLess least extra (Some (l, e))
      → Derivative (a.residual a.start) (x ∷ []) K
      → Derivative (Between (a.residual a.start) least extra) (x ∷ [])
      (Concat K (Between (a.residual a.start) l e))
  between_step least extra l e x K less goes = record {
    there = λ word it. there word it less;
    back = λ word it. back word (between_cases least extra x word it) less;
  }
    where
      more : (word : List ℕ) (it : Concat K (Between (a.residual a.start) l e) word)
          → Power (a.residual a.start) (suc it.second.0) (x ∷ word)
      more word it = record {
        left = x ∷ it.left;
        right = it.right;
        splits = ap (λ w. x ∷ w) it.splits;
        first = goes.there it.left it.first;
        second = it.second.3;
      }

      there : (word : List ℕ) → Concat K (Between (a.residual a.start) l e) word
          → IsOneLess least extra (Some (l, e))
          → Between (a.residual a.start) least extra (x ∷ word)
      there word it (inl (one, same)) = (
        suc it.second.0,
        omega (arith, one, it.second.1),
        omega (arith, one, same, it.second.2),
        more word it,
      )
      there word it (inr (none, zeros, one)) = (
        suc it.second.0,
        omega (arith, none),
        omega (arith, zeros, one, it.second.2),
        more word it,
      )

      back : (word : List ℕ) → FirstOf least extra x word → IsOneLess least extra (Some (l, e))
          → Concat K (Between (a.residual a.start) l e) word
      back word (m, low, high, left, right, splits, one, two) (inl (first, same)) = record {
        left = left;
        right = right;
        splits = splits;
        first = goes.back left one;
        second = (m, omega (arith, first, low), omega (arith, first, same, high), two);
      }
      back word (m, low, high, left, right, splits, one, two) (inr (none, zeros, first)) = record {
        left = left;
        right = right;
        splits = splits;
        first = goes.back left one;
        second = (m, omega (arith, zeros), omega (arith, none, first, high), two);
      }

  between_never : (least extra x : ℕ) → NeverStarts (a.residual a.start) x
      → NeverStarts (Between (a.residual a.start) least extra) x
  between_never least extra x never word it =
      let (m, low, high, left, right, e, one, two) = between_cases least extra x word it in
      never left one

  between_over : (least extra x : ℕ) → IsOneLess least extra None
      → NeverStarts (Between (a.residual a.start) least extra) x
  between_over least extra x (none, nor) word it =
      let (m, low, high, left, right, e, one, two) = between_cases least extra x word it in
      omega (arith, high, none, nor)

  between_empty : (least extra : ℕ) → least ≡ 0 → Between (a.residual a.start) least extra []
  between_empty least extra none = (0, omega (arith, none), omega arith, refl)

  between_none : (least extra : ℕ) → Between (a.residual a.start) least extra [] → least ≡ 0
  between_none least extra (zero, low, high, e) = omega (arith, low)
  between_none least extra (suc m, low, high, it) = absurd (solid (concat_empty it).0)

  power_live : (n : ℕ) → (word : List ℕ) × Power (a.residual a.start) n word
  power_live zero = ([], refl)
  power_live (suc n) =
      let (one, due) = la.live a.start in
      let (rest, power) = power_live n in (one ++ rest, concat one rest due power)

  between_live : (least extra : ℕ) → (word : List ℕ) × Between (a.residual a.start) least extra word
  between_live least extra = let (word, it) = power_live least in
      (word, (least, omega arith, omega arith, it))

  some_word : HasNonEmpty (a.residual a.start)
  some_word = let (word, it) = la.live a.start in by word it
    where
      by : (word : List ℕ) → a.residual a.start word → HasNonEmpty (a.residual a.start)
      by [] it = absurd (solid it)
      by (x ∷ word) it = (x, word, it)

  between_more : (least extra l e : ℕ) → IsOneLess least extra (Some (l, e))
      → HasNonEmpty (Between (a.residual a.start) least extra)
  between_more least extra l e less =
      let (rest, power) = power_live l in
      let (x, word, it) = nonempty_first some_word rest power in
      (x, word, (suc l, low less, high less, it))
    where
      low : IsOneLess least extra (Some (l, e)) → least ≤ suc l
      low (inl (one, same)) = omega (arith, one)
      low (inr (none, zeros, one)) = omega (arith, none)

      high : IsOneLess least extra (Some (l, e)) → suc l ≤ least + extra
      high (inl (one, same)) = omega (arith, one)
      high (inr (none, zeros, one)) = omega (arith, zeros, one)

  -- ---- one byte

  word_step : (least extra : ℕ) (s t : A) (x : ℕ) → x < 256
      → Derivative (a.residual s) (x ∷ []) (a.residual t)
      → Derivative (TurnResidual a least extra (Some s)) (x ∷ [])
      (TurnResidual a least extra (Some t))
  word_step least extra s t x low goes = concat_first x goes (λ empty.
      between_never least extra x (never empty))
    where
      never : a.residual s [] → NeverStarts (a.residual a.start) x
      never empty word it = let (rest, due) = la.live t in
          disjoint_by a.nexts a.firsts disjoint x low (la.next s x rest empty (goes.there rest due))
          (la.first x word it)

  begin_word : (least extra l e : ℕ) (inner : Option A) (t : A) (x : ℕ)
      → IsOneLess least extra (Some (l, e))
      → Derivative (a.residual a.start) (x ∷ []) (a.residual t) → Stays a inner x
      → InnerDone a inner
      → Derivative (TurnResidual a least extra inner) (x ∷ []) (TurnResidual a l e (Some t))
  begin_word least extra l e None t x less goes never whole =
      between_step least extra l e x (a.residual t) less goes
  begin_word least extra l e (Some s) t x less goes never whole = concat_second x never whole
      (between_step least extra l e x (a.residual t) less goes)

  lift : (least extra : ℕ) (s t : A) (front : List ℕ) → AreBytes front → Path a s front t
      → Path (times_grammar a start_least start_extra) (turn least extra (Some s)) front
      (turn least extra (Some t))
  lift least extra s t [] low e = let f : A → Turn A = λ y. turn least extra (Some y) in ap f e
  lift least extra s t (x ∷ front) (low, lows) (next, goes, path) = (
    turn least extra (Some next),
    word_step least extra s next x low goes,
    lift least extra next t front lows path,
  )

  pub times_word : (from at : Turn A) (u v : A) (bytes rest left : List ℕ) (l e : ℕ)
      → u ≡ a.start → Reaches (times_grammar a start_least start_extra) from bytes at rest
      → AreBytes rest → InnerStopped a at.inner rest → InnerDone a at.inner
      → IsOneLess at.least at.extra (Some (l, e)) → Passes a u rest v left
      → (length left ≡ length rest → ⊥)
      → Reaches (times_grammar a start_least start_extra) from bytes (turn l e (Some v)) left
  times_word from at u v bytes rest left l e f led low stopped whole less (starts, ends) more =
      let Q : A → Type 0 = λ p. Reaches a p rest v left in
      let entered = subst Q f starts in
      reaches_both (times_grammar a start_least start_extra) from at (turn l e (Some v)) bytes rest
      left led (record {
        front = entered.front;
        splits = entered.splits;
        path = by entered.front entered.splits entered.path
            (below_front entered.front left rest entered.splits low);
      })
    where
      by : (front : List ℕ) → rest ≡ front ++ left → Path a a.start front v → AreBytes front
          → Path (times_grammar a start_least start_extra) at front (turn l e (Some v))
      by [] splits path low = absurd (more (sym (ap (λ l. length l) splits)))
      by (x ∷ front) splits (next, goes, path) (here, lows) =
          let R : List ℕ → Type 0 = λ l. InnerStopped a at.inner l in (
            turn l e (Some next),
            begin_word at.least at.extra l e at.inner next x less goes
                (stays a at.inner x (front ++ left) (subst R splits stopped)) whole,
            lift l e next v front lows path,
          )

  -- in a word, and then in what follows it
  pub times_goes : (at : Turn A) (s t : A) (to : Turn A) (bytes left rest : List ℕ)
      → at.inner ≡ Some s → AreBytes bytes → Passes a s bytes t left
      → Passes (times_grammar a start_least start_extra) (turn at.least at.extra (Some t)) left to
      rest → Passes (times_grammar a start_least start_extra) at bytes to rest
  times_goes at s t to bytes left rest e low (it, stopped) (two, ends) =
      let P : Option A → Type 0 = λ i. Passes (times_grammar a start_least start_extra)
      (turn at.least at.extra i) bytes to rest in
      subst P (sym e) (
        reaches_both (times_grammar a start_least start_extra) (turn at.least at.extra (Some s))
            (turn at.least at.extra (Some t)) to bytes left rest (record {
              front = it.front;
              splits = it.splits;
              path = lift at.least at.extra s t it.front
                  (below_front it.front left bytes it.splits low) it.path;
            }) two,
        ends,
      )

  -- ---- where the loop stops

  never_in : (least extra : ℕ) (inner : Option A) (x : ℕ) → Stays a inner x
      → (InnerDone a inner → NeverStarts (Between (a.residual a.start) least extra) x)
      → NeverStarts (TurnResidual a least extra inner) x
  never_in least extra None x never none = none tt
  never_in least extra (Some s) x never none = concat_never x never none

  pub times_end : (at : Turn A) (rest : List ℕ) → length rest ≡ 0
      → IsStopped (TurnResidual a at.least at.extra at.inner) rest
  times_end at [] none = tt
  times_end at (x ∷ rest) none = absurd (omega (arith, none))

  pub times_undone : (at : Turn A) (rest : List ℕ) → InnerStopped a at.inner rest
      → (InnerDone a at.inner → ⊥) → IsStopped (TurnResidual a at.least at.extra at.inner) rest
  times_undone at [] stopped not = tt
  times_undone at (x ∷ rest) stopped not = never_in at.least at.extra at.inner x
      (stays a at.inner x rest stopped) (λ whole. absurd (not whole))

  pub times_over : (at : Turn A) (rest : List ℕ) → InnerStopped a at.inner rest
      → IsOneLess at.least at.extra None
      → IsStopped (TurnResidual a at.least at.extra at.inner) rest
  times_over at [] stopped none = tt
  times_over at (x ∷ rest) stopped none = never_in at.least at.extra at.inner x
      (stays a at.inner x rest stopped) (λ whole. between_over at.least at.extra x none)

  pub times_stops : (at : Turn A) (u v : A) (rest left : List ℕ) → u ≡ a.start
      → InnerStopped a at.inner rest → Passes a u rest v left → length left ≡ length rest
      → IsStopped (TurnResidual a at.least at.extra at.inner) rest
  times_stops at u v rest left f stopped passes same =
      by rest stopped (stuck a u v rest left f passes same)
    where
      by : (rest : List ℕ) → InnerStopped a at.inner rest → IsStopped (a.residual a.start) rest
          → IsStopped (TurnResidual a at.least at.extra at.inner) rest
      by [] stopped never = tt
      by (x ∷ rest) stopped never = never_in at.least at.extra at.inner x
          (stays a at.inner x rest stopped) (λ whole. between_never at.least at.extra x never)

  -- ---- whole words

  done_in : (least extra : ℕ) (inner : Option A) → TurnResidual a least extra inner []
      → (least ≡ 0) × InnerDone a inner
  done_in least extra None it = (between_none least extra it, tt)
  done_in least extra (Some s) it = let (one, two) = concat_empty it in
      (between_none least extra two, one)

  pub times_done : (at : Turn A) → at.least ≡ 0 → (p : Bool) → IsTrue p ↔ InnerDone a at.inner
      → IsTrue p ↔ TurnResidual a at.least at.extra at.inner []
  times_done at none p inner = (
    λ is. by at.inner (inner.0 is),
    λ it. inner.1 (done_in at.least at.extra at.inner it).1,
  )
    where
      by : (inner : Option A) → InnerDone a inner → TurnResidual a at.least at.extra inner []
      by None whole = between_empty at.least at.extra none
      by (Some s) whole = empty_concat whole (between_empty at.least at.extra none)

  pub times_open : (at : Turn A) → (at.least ≡ 0 → ⊥)
      → IsTrue false ↔ TurnResidual a at.least at.extra at.inner []
  times_open at some =
      (λ is. absurd (untrue is), λ it. absurd (some (done_in at.least at.extra at.inner it).0))
    where
      untrue : IsTrue false → ⊥
      untrue is = cc

  pub times_more : (at : Turn A) (l e : ℕ) → IsOneLess at.least at.extra (Some (l, e))
      → HasEnded (times_grammar a start_least start_extra) at false
  times_more at l e less = by at.inner
    where
      by : (inner : Option A) → HasNonEmpty (TurnResidual a at.least at.extra inner)
      by None = between_more at.least at.extra l e less
      by (Some s) = let (word, it) = la.live s in
          nonempty_second word it (between_more at.least at.extra l e less)

  pub times_last : (at : Turn A) (s : A) → IsOneLess at.least at.extra None → at.inner ≡ Some s
      → (p : Bool) → HasEnded a s p → HasEnded (times_grammar a start_least start_extra) at p
  times_last at s none e p it =
      let P : Option A → Type 0 = λ i.
      HasEnded (times_grammar a start_least start_extra) (turn at.least at.extra i) p in
      subst P (sym e) (by p it)
    where
      by : (p : Bool) → HasEnded a s p
          → HasEnded (times_grammar a start_least start_extra) (turn at.least at.extra (Some s)) p
      by true never = λ x. concat_never x (never x) (λ empty. between_over at.least at.extra x none)
      by false more = let (word, it) = between_live at.least at.extra in nonempty_first more word it

  pub times_none : (at : Turn A) → IsOneLess at.least at.extra None → at.inner ≡ None
      → HasEnded (times_grammar a start_least start_extra) at true
  times_none at none e =
      let P : Option A → Type 0 = λ i.
      HasEnded (times_grammar a start_least start_extra) (turn at.least at.extra i) true in
      subst P (sym e) (λ x. between_over at.least at.extra x none)

  pub times_lawful : Lawful (times_grammar a start_least start_extra)
  times_lawful = record {
    first = first start_least start_extra;
    next = λ at. next at.least at.extra at.inner;
    null = λ it. eq-eqb start_least 0 (between_none start_least start_extra it);
    live = λ at. live at.least at.extra at.inner;
  }
    where
      first : (least extra x : ℕ) (word : List ℕ)
          → Between (a.residual a.start) least extra (x ∷ word) → IsTrue (a.firsts x)
      first least extra x word it =
          let (m, low, high, left, right, e, one, two) = between_cases least extra x word it in
          la.first x left one

      next : (least extra : ℕ) (inner : Option A) (x : ℕ) (word : List ℕ)
          → TurnResidual a least extra inner [] → TurnResidual a least extra inner (x ∷ word)
          → IsTrue (a.nexts x || a.firsts x)
      next least extra None x word it also =
          or_right (a.nexts x) (a.firsts x) (first least extra x word also)
      next least extra (Some s) x word it also = by (concat_cases also)
        where
          by : (a.residual s [] × Between (a.residual a.start) least extra (x ∷ word))
              ⊎ ((left : List ℕ) × (right : List ℕ) × (word ≡ left ++ right)
              × a.residual s (x ∷ left) × Between (a.residual a.start) least extra right)
              → IsTrue (a.nexts x || a.firsts x)
          by (inl (one, two)) = or_right (a.nexts x) (a.firsts x) (first least extra x word two)
          by (inr (left, right, e, one, two)) =
              or_left (a.nexts x) (a.firsts x) (la.next s x left (concat_empty it).0 one)

      live : (least extra : ℕ) (inner : Option A)
          → (word : List ℕ) × TurnResidual a least extra inner word
      live least extra None = between_live least extra
      live least extra (Some s) =
          let (one, due) = la.live s in
          let (rest, it) = between_live least extra in (one ++ rest, concat one rest due it)
