-- Lemmas on the states of nested brackets.
use Rattle.std.specs.Prelude.{◌≡◌, ◌<◌, ◌⊎◌, ℕ, zero, suc, List, [], ◌∷◌, ◌++◌}
use Rattle.std.specs.Prelude.{length, Bool, true, false, IsTrue, Option, Some, None, ◌||◌, ◌↔◌}
use Rattle.std.proofs.Common.{◌∙◌, inl, inr, refl, sym, subst, ap, arith}
use Rattle.machines.specs.Bounds.{disjoint_by, or_left, or_right}
use Rattle.machines.specs.Concats.{concat, concat_cases, concat_empty, concat_first, concat_never}
use Rattle.machines.specs.Concats.{concat_second, empty_concat, nonempty_second}
use Rattle.machines.specs.Grammar.{Grammar, HasEnded, IsStopped, Lawful, Passes, Path, Reaches}
use Rattle.machines.specs.Items.{NoCloser, closer_is, enclosed_close, enclosed_empty, enclosed_left}
use Rattle.machines.specs.Items.{enclosed_live, enclosed_more, enclosed_never, enclosed_right}
use Rattle.machines.specs.Items.{enclosed_step, item_first, item_leaf, item_never, item_open}
use Rattle.machines.specs.Items.{item_solid, opener_is, room_is, stack_length}
use Rattle.machines.specs.Languages.{AreBytes, Concat, Derivative, HasNonEmpty, Language}
use Rattle.machines.specs.Languages.{NeverStarts}
use Rattle.machines.specs.Nests.{AreApart, Balanced, Brackets, Enclosed, Item, IsTurn}
use Rattle.machines.specs.Nests.{LevelResidual, NestAt, NestResidual, OneByte, is_bracket, is_close}
use Rattle.machines.specs.Nests.{is_open, nested_grammar, room, stack}
use Rattle.machines.specs.Paths.{below_front, reaches_both, stuck}
use Rattle.machines.specs.Stars.{InnerDone, InnerStopped, Stays, none_yet, once_more, repeated_byte}
use Rattle.machines.specs.Stars.{repeated_cases, repeated_never, stays}
use Rattle.machines.specs.declared.nested.Nest.{Nest}

abbrev nest : {A : Type 0} → ℕ → ℕ → Option A → Nest A
nest depth kinds inner = record { depth = depth; kinds = kinds; inner = inner }

module _ {A : Type 0} (b : Brackets) (a : Grammar A) (la : Lawful a) (apart : AreApart b a)
    (limit : ℕ) where
  -- ---- the language of a level

  level_empty : (depth : ℕ) (inner : Option A) → InnerDone a inner
      → LevelResidual b a depth inner []
  level_empty depth None whole = none_yet
  level_empty depth (Some s) whole = empty_concat whole none_yet

  level_done : (depth : ℕ) (inner : Option A) → LevelResidual b a depth inner []
      → InnerDone a inner
  level_done depth None it = tt
  level_done depth (Some s) it = (concat_empty it).0

  level_step : (depth : ℕ) (inner : Option A) (x : ℕ) (K : Language)
      → Derivative (Balanced b (a.residual a.start) depth) (x ∷ []) K → Stays a inner x
      → InnerDone a inner → Derivative (LevelResidual b a depth inner) (x ∷ []) K
  level_step depth None x K goes never whole = goes
  level_step depth (Some s) x K goes never whole = concat_second x never whole goes

  level_never : (depth : ℕ) (inner : Option A) (x : ℕ)
      → NeverStarts (Balanced b (a.residual a.start) depth) x → Stays a inner x
      → NeverStarts (LevelResidual b a depth inner) x
  level_never depth None x none never = none
  level_never depth (Some s) x none never = concat_never x never (λ empty. none)

  balanced_never : (depth x : ℕ) → (IsTrue (a.firsts x || is_open b x) → ⊥)
      → NeverStarts (Balanced b (a.residual a.start) depth) x
  balanced_never depth x not = repeated_never (item_solid b a la apart depth) x
      (λ word it. not (item_first b a la apart depth x word it))

  or_cases : (p q : Bool) → IsTrue (p || q) → IsTrue p ⊎ IsTrue q
  or_cases true q it = inl refl
  or_cases false q it = inr it

  not_close : (x : ℕ) → x < 256 → IsTrue (is_close b x) → IsTrue (a.firsts x || is_open b x) → ⊥
  not_close x low close it = by (or_cases (a.firsts x) (is_open b x) it)
    where
      by : IsTrue (a.firsts x) ⊎ IsTrue (is_open b x) → ⊥
      by (inl first) = disjoint_by a.firsts (is_bracket b) apart.first x low first
          (or_right (is_open b x) (is_close b x) close)
      by (inr other) = disjoint_by (is_open b) (is_close b) apart.brackets x low other close

  not_next : (x : ℕ) → x < 256 → IsTrue (a.nexts x) → IsTrue (a.firsts x || is_open b x) → ⊥
  not_next x low next it = by (or_cases (a.firsts x) (is_open b x) it)
    where
      by : IsTrue (a.firsts x) ⊎ IsTrue (is_open b x) → ⊥
      by (inl first) = disjoint_by a.nexts a.firsts apart.words x low next first
      by (inr other) = disjoint_by a.nexts (is_bracket b) apart.next x low next
          (or_left (is_open b x) (is_close b x) other)

  no_closer : (ks : List Bool) (x : ℕ) → (IsTrue (is_close b x) → ⊥) → NoCloser b ks x
  no_closer [] x not = tt
  no_closer (k ∷ ks) x not = λ e. not (closer_is b k x e)

  -- ---- one byte

  word_step : (ks : List Bool) (s t : A) (x : ℕ) → x < 256
      → Derivative (a.residual s) (x ∷ []) (a.residual t)
      → Derivative (NestAt b a limit ks (Some s)) (x ∷ []) (NestAt b a limit ks (Some t))
  word_step ks s t x low goes = enclosed_step b a la apart limit ks
      (LevelResidual b a (room limit ks) (Some s))
      (LevelResidual b a (room limit ks) (Some t)) x
      (concat_first x goes (λ empty. balanced_never (room limit ks) x
      (not_next x low (next empty))))
      (λ empty. no_closer ks x (λ close. disjoint_by a.nexts (is_bracket b) apart.next x low
      (next (concat_empty empty).0) (or_right (is_open b x) (is_close b x) close)))
    where
      next : a.residual s [] → IsTrue (a.nexts x)
      next empty = let (rest, it) = la.live t in la.next s x rest empty (goes.there rest it)

  begin_word : (ks : List Bool) (inner : Option A) (t : A) (x : ℕ) → x < 256
      → Derivative (a.residual a.start) (x ∷ []) (a.residual t) → Stays a inner x
      → InnerDone a inner
      → Derivative (NestAt b a limit ks inner) (x ∷ []) (NestAt b a limit ks (Some t))
  begin_word ks inner t x low goes never whole = enclosed_step b a la apart limit ks
      (LevelResidual b a (room limit ks) inner)
      (LevelResidual b a (room limit ks) (Some t)) x
      (level_step (room limit ks) inner x (LevelResidual b a (room limit ks) (Some t))
      (repeated_byte (item_solid b a la apart (room limit ks)) x
      (item_leaf b a la apart (room limit ks) x t low goes)) never whole)
      (λ empty. no_closer ks x (λ close. disjoint_by a.firsts (is_bracket b) apart.first x low first
      (or_right (is_open b x) (is_close b x) close)))
    where
      first : IsTrue (a.firsts x)
      first = let (word, it) = la.live t in la.first x word (goes.there word it)

  open_turn : (ks : List Bool) (inner : Option A) (j : Bool) (x : ℕ) → x < 256
      → x ≡ b.opener j → length ks < limit → Stays a inner x → InnerDone a inner
      → Derivative (NestAt b a limit ks inner) (x ∷ []) (NestAt b a limit (j ∷ ks) None)
  open_turn ks inner j x low e less never whole = record {
    there = λ word it. step.there word
        (enclosed_left b a la apart limit ks Inside (OneByte (b.closer j))
        (Balanced b (a.residual a.start) (room limit ks)) word it);
    back = λ word it. enclosed_right b a la apart limit ks Inside (OneByte (b.closer j))
        (Balanced b (a.residual a.start) (room limit ks)) word (step.back word it);
  }
    where
      Inside : Language
      Inside = Balanced b (a.residual a.start) (room limit (j ∷ ks))

      one_less : room limit ks ≡ suc (room limit (j ∷ ks))
      one_less = omega (arith, less, room_is limit ks)

      opens : Derivative (Balanced b (a.residual a.start) (room limit ks)) (x ∷ [])
          (Concat (Concat Inside (OneByte (b.closer j)))
          (Balanced b (a.residual a.start) (room limit ks)))
      opens =
          let P : ℕ → Type 0 = λ n. Derivative (Balanced b (a.residual a.start) n) (x ∷ [])
          (Concat (Concat Inside (OneByte (b.closer j)))
          (Balanced b (a.residual a.start) n)) in
          subst P (sym one_less)
          (repeated_byte (item_solid b a la apart (suc (room limit (j ∷ ks)))) x
          (item_open b a la apart (room limit (j ∷ ks)) x j low e))

      step : Derivative (NestAt b a limit ks inner) (x ∷ [])
          (Enclosed b (a.residual a.start) limit ks (Concat (Concat Inside (OneByte (b.closer j)))
          (Balanced b (a.residual a.start) (room limit ks))))
      step = enclosed_step b a la apart limit ks (LevelResidual b a (room limit ks) inner)
          (Concat (Concat Inside (OneByte (b.closer j)))
          (Balanced b (a.residual a.start) (room limit ks))) x
          (level_step (room limit ks) inner x (Concat (Concat Inside (OneByte (b.closer j)))
          (Balanced b (a.residual a.start) (room limit ks))) opens never whole)
          (λ empty. no_closer ks x (λ close. disjoint_by (is_open b) (is_close b) apart.brackets x
          low (opener_is b j x e) close))

  close_turn : (k : Bool) (ks : List Bool) (inner : Option A) (x : ℕ) → x < 256
      → x ≡ b.closer k → Stays a inner x → InnerDone a inner
      → Derivative (NestAt b a limit (k ∷ ks) inner) (x ∷ []) (NestAt b a limit ks None)
  close_turn k ks inner x low e never whole = enclosed_close b a la apart limit k ks
      (LevelResidual b a (room limit (k ∷ ks)) inner) x e
      (level_never (room limit (k ∷ ks)) inner x (balanced_never (room limit (k ∷ ks)) x
      (not_close x low (closer_is b k x e))) never)
      (level_empty (room limit (k ∷ ks)) inner whole)

  turn_step : (at : Nest A) (x d k : ℕ) → x < 256 → Stays a at.inner x → InnerDone a at.inner
      → IsTurn b limit at.depth at.kinds x (Some (d, k))
      → Derivative (NestResidual b a limit at) (x ∷ []) (NestResidual b a limit (nest d k None))
  turn_step at x d k low never whole (inl (j, e, less, is)) =
      let P : List Bool → Type 0 = λ ks. Derivative (NestResidual b a limit at) (x ∷ [])
      (NestAt b a limit ks None) in
      let size = stack_length at.depth at.kinds in
      subst P (sym is) (open_turn (stack at.depth at.kinds) at.inner j x low e
      (omega (arith, less, size)) never whole)
  turn_step at x d k low never whole (inr (j, e, is)) =
      let P : List Bool → Type 0 = λ ks. Derivative (NestAt b a limit ks at.inner) (x ∷ [])
      (NestResidual b a limit (nest d k None)) in
      subst P (sym is) (close_turn j (stack d k) at.inner x low e never whole)

  -- ---- the steps of the loop

  pub nest_turn : (from at : Nest A) (bytes rest others : List ℕ) (x d k : ℕ)
      → Reaches (nested_grammar b a limit) from bytes at rest → rest ≡ x ∷ others → AreBytes rest
      → InnerStopped a at.inner rest → InnerDone a at.inner
      → IsTurn b limit at.depth at.kinds x (Some (d, k))
      → Reaches (nested_grammar b a limit) from bytes (nest d k None) others
  nest_turn from at bytes rest others x d k led e low stopped whole turn =
      let R : List ℕ → Type 0 = λ l. InnerStopped a at.inner l in
      let (here, lows) = subst AreBytes e low in
      reaches_both (nested_grammar b a limit) from at (nest d k None) bytes rest others led
      (record {
        front = x ∷ [];
        splits = e;
        path = (
          nest d k None,
          turn_step at x d k here (stays a at.inner x others (subst R e stopped)) whole turn,
          refl,
        );
      })

  lift : (d k : ℕ) (s t : A) (front : List ℕ) → AreBytes front → Path a s front t
      → Path (nested_grammar b a limit) (nest d k (Some s)) front (nest d k (Some t))
  lift d k s t [] low e = let f : A → Nest A = λ y. nest d k (Some y) in ap f e
  lift d k s t (x ∷ front) (low, lows) (next, goes, path) = (
    nest d k (Some next),
    word_step (stack d k) s next x low goes,
    lift d k next t front lows path,
  )

  pub nest_word : (from at : Nest A) (u v : A) (bytes rest left : List ℕ) → u ≡ a.start
      → Reaches (nested_grammar b a limit) from bytes at rest → AreBytes rest
      → InnerStopped a at.inner rest → InnerDone a at.inner → Passes a u rest v left
      → (length left ≡ length rest → ⊥)
      → Reaches (nested_grammar b a limit) from bytes (nest at.depth at.kinds (Some v)) left
  nest_word from at u v bytes rest left f led low stopped whole (starts, ends) more =
      let Q : A → Type 0 = λ p. Reaches a p rest v left in
      let entered = subst Q f starts in
      reaches_both (nested_grammar b a limit) from at (nest at.depth at.kinds (Some v)) bytes rest
      left led (record {
        front = entered.front;
        splits = entered.splits;
        path = by entered.front entered.splits entered.path
            (below_front entered.front left rest entered.splits low);
      })
    where
      by : (front : List ℕ) → rest ≡ front ++ left → Path a a.start front v → AreBytes front
          → Path (nested_grammar b a limit) at front (nest at.depth at.kinds (Some v))
      by [] splits path low = absurd (more (sym (ap (λ l. length l) splits)))
      by (x ∷ front) splits (next, goes, path) (here, lows) =
          let R : List ℕ → Type 0 = λ l. InnerStopped a at.inner l in (
            nest at.depth at.kinds (Some next),
            begin_word (stack at.depth at.kinds) at.inner next x here goes
                (stays a at.inner x (front ++ left) (subst R splits stopped)) whole,
            lift at.depth at.kinds next v front lows path,
          )

  -- in a word, and then in what follows it
  pub nest_goes : (at : Nest A) (s t : A) (to : Nest A) (bytes left rest : List ℕ)
      → at.inner ≡ Some s → AreBytes bytes → Passes a s bytes t left
      → Passes (nested_grammar b a limit) (nest at.depth at.kinds (Some t)) left to rest
      → Passes (nested_grammar b a limit) at bytes to rest
  nest_goes at s t to bytes left rest e low (it, stopped) (two, ends) =
      let P : Option A → Type 0 = λ i. Passes (nested_grammar b a limit)
      (nest at.depth at.kinds i) bytes to rest in
      subst P (sym e) (
        reaches_both (nested_grammar b a limit) (nest at.depth at.kinds (Some s))
            (nest at.depth at.kinds (Some t)) to bytes left rest (record {
              front = it.front;
              splits = it.splits;
              path = lift at.depth at.kinds s t it.front
                  (below_front it.front left bytes it.splits low) it.path;
            }) two,
        ends,
      )

  -- ---- where the loop stops

  pub nest_undone : (at : Nest A) (rest : List ℕ) → InnerStopped a at.inner rest
      → (InnerDone a at.inner → ⊥) → IsStopped (NestResidual b a limit at) rest
  nest_undone at [] stopped not = tt
  nest_undone at (x ∷ rest) stopped not = enclosed_never b a la apart limit
      (stack at.depth at.kinds)
      (LevelResidual b a (room limit (stack at.depth at.kinds)) at.inner) x
      (by at.inner stopped not)
      (λ empty. absurd (not (level_done (room limit (stack at.depth at.kinds)) at.inner empty)))
    where
      by : (inner : Option A) → InnerStopped a inner (x ∷ rest) → (InnerDone a inner → ⊥)
          → NeverStarts (LevelResidual b a (room limit (stack at.depth at.kinds)) inner) x
      by None stopped not = absurd (not tt)
      by (Some s) never not = concat_never x never (λ empty. absurd (not empty))

  pub nest_stops : (at : Nest A) (u v : A) (rest others left : List ℕ) (x : ℕ) → u ≡ a.start
      → rest ≡ x ∷ others → InnerStopped a at.inner rest
      → IsTurn b limit at.depth at.kinds x None → Passes a u rest v left
      → length left ≡ length rest → IsStopped (NestResidual b a limit at) rest
  nest_stops at u v rest others left x f e stopped (shut, none) passes same =
      let R : List ℕ → Type 0 = λ l. InnerStopped a at.inner l in
      let S : List ℕ → Type 0 = λ l. IsStopped (NestResidual b a limit at) l in
      let T : List ℕ → Type 0 = λ l. IsStopped (a.residual a.start) l in
      subst S (sym e) (by (subst R e stopped) (subst T e (stuck a u v rest left f passes same)))
    where
      size : length (stack at.depth at.kinds) ≡ at.depth
      size = stack_length at.depth at.kinds

      closed : (ks : List Bool) → stack at.depth at.kinds ≡ ks → NoCloser b ks x
      closed [] is = tt
      closed (k ∷ ks) is = none k ks is

      by : InnerStopped a at.inner (x ∷ others) → NeverStarts (a.residual a.start) x
          → NeverStarts (NestResidual b a limit at) x
      by stopped never = enclosed_never b a la apart limit (stack at.depth at.kinds)
          (LevelResidual b a (room limit (stack at.depth at.kinds)) at.inner) x
          (level_never (room limit (stack at.depth at.kinds)) at.inner x
          (repeated_never (item_solid b a la apart (room limit (stack at.depth at.kinds))) x
          (item_never b a la apart (room limit (stack at.depth at.kinds)) x never
          (λ j is. omega (arith, shut j is, size, room_is limit (stack at.depth at.kinds)))))
          (stays a at.inner x others stopped))
          (λ empty. closed (stack at.depth at.kinds) refl)

  -- ---- whole words

  pub nest_done : (at : Nest A) → at.depth ≡ 0 → (p : Bool) → IsTrue p ↔ InnerDone a at.inner
      → IsTrue p ↔ NestResidual b a limit at []
  nest_done at e p inner =
      let P : ℕ → Type 0 = λ d. IsTrue p ↔ NestAt b a limit (stack d at.kinds) at.inner [] in
      subst P (sym e) (
        λ is. level_empty limit at.inner (inner.0 is),
        λ it. inner.1 (level_done limit at.inner it),
      )

  pub nest_open : (at : Nest A) → (at.depth ≡ 0 → ⊥) → IsTrue false ↔ NestResidual b a limit at []
  nest_open at some = (λ is. absurd (untrue is), λ it. absurd (some (by it)))
    where
      untrue : IsTrue false → ⊥
      untrue is = cc

      by : NestResidual b a limit at [] → at.depth ≡ 0
      by it = let (none, inner) = enclosed_empty b a la apart limit (stack at.depth at.kinds)
          (LevelResidual b a (room limit (stack at.depth at.kinds)) at.inner) it in
          sym (stack_length at.depth at.kinds) ∙ ap (λ l. length l) none

  level_live : (depth : ℕ) (inner : Option A) → (word : List ℕ) × LevelResidual b a depth inner word
  level_live depth None = ([], none_yet)
  level_live depth (Some s) = let (word, it) = la.live s in
      (word ++ [], concat word [] it none_yet)

  item_of : (depth : ℕ) (word : List ℕ) → a.residual a.start word
      → Item b (a.residual a.start) depth word
  item_of zero word it = it
  item_of (suc depth) word it = inl it

  balanced_more : (depth : ℕ) → HasNonEmpty (Balanced b (a.residual a.start) depth)
  balanced_more depth = let (word, it) = la.live a.start in by word it
    where
      by : (word : List ℕ) → a.residual a.start word
          → HasNonEmpty (Balanced b (a.residual a.start) depth)
      by [] it = absurd (item_solid b a la apart depth (item_of depth [] it))
      by (x ∷ word) it = (
        x,
        word ++ [],
        once_more (concat (x ∷ word) [] (item_of depth (x ∷ word) it)
            none_yet),
      )

  level_more : (depth : ℕ) (inner : Option A) → HasNonEmpty (LevelResidual b a depth inner)
  level_more depth None = balanced_more depth
  level_more depth (Some s) = let (word, it) = la.live s in
      nonempty_second word it (balanced_more depth)

  pub nest_over : (at : Nest A) → HasEnded (nested_grammar b a limit) at false
  nest_over at =
      let depth : ℕ = room limit (stack at.depth at.kinds) in
      let (word, it) = level_live depth at.inner in
      enclosed_more b a la apart limit (stack at.depth at.kinds)
      (LevelResidual b a depth at.inner) word it (level_more depth at.inner)

  pub nested_lawful : Lawful (nested_grammar b a limit)
  nested_lawful = record {
    first = balanced_first limit;
    next = next;
    null = λ it. refl;
    live = λ at. enclosed_live b a la apart limit (stack at.depth at.kinds)
        (LevelResidual b a (room limit (stack at.depth at.kinds)) at.inner)
        (level_live (room limit (stack at.depth at.kinds)) at.inner).0
        (level_live (room limit (stack at.depth at.kinds)) at.inner).1;
  }
    where
      balanced_first : (depth x : ℕ) (word : List ℕ)
          → Balanced b (a.residual a.start) depth (x ∷ word) → IsTrue (a.firsts x || is_open b x)
      balanced_first depth x word it =
          let (left, right, e, one, two) =
          repeated_cases (item_solid b a la apart depth) x word it in
          item_first b a la apart depth x left one

      level_next : (depth : ℕ) (inner : Option A) (x : ℕ) (word : List ℕ)
          → LevelResidual b a depth inner [] → LevelResidual b a depth inner (x ∷ word)
          → IsTrue (a.nexts x || (a.firsts x || is_open b x))
      level_next depth None x word it also = or_right (a.nexts x) (a.firsts x || is_open b x)
          (balanced_first depth x word also)
      level_next depth (Some s) x word it also = by (concat_cases also)
        where
          by : (a.residual s [] × Balanced b (a.residual a.start) depth (x ∷ word))
              ⊎ ((left : List ℕ) × (right : List ℕ) × (word ≡ left ++ right)
              × a.residual s (x ∷ left) × Balanced b (a.residual a.start) depth right)
              → IsTrue (a.nexts x || (a.firsts x || is_open b x))
          by (inl (one, two)) = or_right (a.nexts x) (a.firsts x || is_open b x)
              (balanced_first depth x word two)
          by (inr (left, right, e, one, two)) = or_left (a.nexts x) (a.firsts x || is_open b x)
              (la.next s x left (concat_empty it).0 one)

      next : (at : Nest A) (x : ℕ) (word : List ℕ) → NestResidual b a limit at []
          → NestResidual b a limit at (x ∷ word)
          → IsTrue (a.nexts x || (a.firsts x || is_open b x))
      next at x word it also = by (stack at.depth at.kinds) it also
        where
          by : (ks : List Bool) → NestAt b a limit ks at.inner []
              → NestAt b a limit ks at.inner (x ∷ word)
              → IsTrue (a.nexts x || (a.firsts x || is_open b x))
          by [] it also = level_next limit at.inner x word it also
          by (k ∷ ks) it also = let (none, inner) = enclosed_empty b a la apart limit (k ∷ ks)
              (LevelResidual b a (room limit (k ∷ ks)) at.inner) it in cc
