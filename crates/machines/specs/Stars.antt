-- The grammar of repeated words.
use Rattle.std.specs.Prelude.{◌≡◌, ◌⊎◌, ◌<◌, ℕ, zero, suc, List, [], ◌∷◌, ◌++◌, Bool, true, false}
use Rattle.std.specs.Prelude.{IsTrue, Option, Some, None, ◌||◌, ◌↔◌, length, ⊤}
use Rattle.std.proofs.Common.{inl, inr, refl, sym, subst, ap, arith}
use Rattle.machines.specs.Grammar.{AreDisjoint, HasEnded, Grammar, IsStopped, Lawful, Reaches, Path}
use Rattle.machines.specs.Grammar.{Passes}
use Rattle.machines.specs.Paths.{below_front, reaches_both, stuck}
use Rattle.machines.specs.Concats.{empty_concat, concat, concat_cases, concat_empty, concat_first}
use Rattle.machines.specs.Concats.{concat_never, concat_second, nonempty_second}
use Rattle.machines.specs.Languages.{Derivative, AreBytes, HasNonEmpty, Concat, Language}
use Rattle.machines.specs.Languages.{NeverStarts, Repeated, Power}
use Rattle.machines.specs.Bounds.{disjoint_by, or_left, or_right}

-- ---- words in sequence

module _ {L : Language} where
  pub none_yet : Repeated L []
  none_yet = record { count = zero; words = refl }

  pub once_more : {bytes : List ℕ} → Concat L (Repeated L) bytes → Repeated L bytes
  once_more it = record {
    count = suc it.second.count;
    words = record {
      left = it.left;
      right = it.right;
      splits = it.splits;
      first = it.first;
      second = it.second.words;
    };
  }

  pub repeated_cases : (L [] → ⊥) → (b : ℕ) (word : List ℕ) → Repeated L (b ∷ word)
      → (left : List ℕ) × (right : List ℕ) × (word ≡ left ++ right) × L (b ∷ left)
      × Repeated L right
  repeated_cases solid b word it = by it.count it.words
    where
      behind : (n : ℕ) → (L [] × Power L n (b ∷ word))
          ⊎ ((left : List ℕ) × (right : List ℕ) × (word ≡ left ++ right) × L (b ∷ left)
          × Power L n right)
          → (left : List ℕ) × (right : List ℕ) × (word ≡ left ++ right) × L (b ∷ left)
          × Repeated L right
      behind n (inl (empty, more)) = absurd (solid empty)
      behind n (inr (left, right, e, one, two)) =
          (left, right, e, one, record { count = n; words = two })

      by : (n : ℕ) → Power L n (b ∷ word)
          → (left : List ℕ) × (right : List ℕ) × (word ≡ left ++ right) × L (b ∷ left)
          × Repeated L right
      by zero e = cc
      by (suc n) it = behind n (concat_cases it)

  pub repeated_byte : (L [] → ⊥) → {K : Language} (b : ℕ) → Derivative L (b ∷ []) K
      → Derivative (Repeated L) (b ∷ []) (Concat K (Repeated L))
  repeated_byte solid b goes = record {
    there = λ word it. once_more (record {
      left = b ∷ it.left;
      right = it.right;
      splits = ap (λ l. b ∷ l) it.splits;
      first = goes.there it.left it.first;
      second = it.second;
    });
    back = λ word it. let (left, right, e, one, two) = repeated_cases solid b word it in record {
      left = left;
      right = right;
      splits = e;
      first = goes.back left one;
      second = two;
    };
  }

  pub repeated_never : (L [] → ⊥) → (b : ℕ) → NeverStarts L b → NeverStarts (Repeated L) b
  repeated_never solid b never word it =
      let (left, right, e, one, two) = repeated_cases solid b word it in never left one

-- ---- the machine

abbrev pub StarResidual : {A : Type 0} → Grammar A → Option A → Language
StarResidual a None = Repeated (a.residual a.start)
StarResidual a (Some s) = Concat (a.residual s) (Repeated (a.residual a.start))

abbrev pub star_grammar : {A : Type 0} → Grammar A → Grammar (Option A)
star_grammar a = record {
  start = None;
  residual = StarResidual a;
  firsts = a.firsts;
  nexts = λ x. a.firsts x || a.nexts x;
  nullable = true;
}

-- no byte continues the word that a state is in
abbrev pub InnerStopped : {A : Type 0} → Grammar A → Option A → List ℕ → Type 0
InnerStopped a None left = ⊤
InnerStopped a (Some s) left = IsStopped (a.residual s) left

-- the word that a state is in is complete
abbrev pub InnerDone : {A : Type 0} → Grammar A → Option A → Type 0
InnerDone a None = ⊤
InnerDone a (Some s) = a.residual s []

-- no word in a state continues with the byte
abbrev pub Stays : {A : Type 0} → Grammar A → Option A → ℕ → Type 0
Stays a None x = ⊤
Stays a (Some s) x = NeverStarts (a.residual s) x

pub stays : {A : Type 0} (a : Grammar A) (inner : Option A) (x : ℕ) (rest : List ℕ)
    → InnerStopped a inner (x ∷ rest) → Stays a inner x
stays a None x rest stopped = tt
stays a (Some s) x rest never = never

module _ {A : Type 0} (a : Grammar A) where
  pub star_done : (at : Option A) (s : A) → at ≡ Some s → (p : Bool) → IsTrue p ↔ a.residual s []
      → IsTrue p ↔ StarResidual a at []
  star_done at s e p one =
      let P : Option A → Type 0 = λ x. IsTrue p ↔ StarResidual a x [] in
      subst P (sym e) (
        λ is. empty_concat (one.0 is) none_yet,
        λ it. one.1 (concat_empty it).0,
      )

  pub star_whole : (at : Option A) → at ≡ None → IsTrue true ↔ StarResidual a at []
  star_whole at e =
      let P : Option A → Type 0 = λ x. IsTrue true ↔ StarResidual a x [] in
      subst P (sym e) (λ is. none_yet, λ it. refl)

module _ {A : Type 0} (a : Grammar A) (la : Lawful a) (filled : a.nullable ≡ false)
    (disjoint : AreDisjoint a.nexts a.firsts) where
  solid : a.residual a.start [] → ⊥
  solid it = let e = la.null it in cc

  rest_first : (x : ℕ) (word : List ℕ) → Repeated (a.residual a.start) (x ∷ word)
      → IsTrue (a.firsts x)
  rest_first x word it = let (left, right, e, one, two) = repeated_cases solid x word it in
      la.first x left one

  only_first : (x : ℕ) → x < 256 → (s t : A) → Derivative (a.residual s) (x ∷ []) (a.residual t)
      → a.residual s []
      → NeverStarts (Repeated (a.residual a.start)) x
  only_first x low s t goes empty word it =
      let (rest, residual) = la.live t in
      disjoint_by a.nexts a.firsts disjoint x low
      (la.next s x rest empty (goes.there rest residual))
      (rest_first x word it)

  lift : (s t : A) (front : List ℕ) → AreBytes front → Path a s front t
      → Path (star_grammar a) (Some s) front (Some t)
  lift s t [] low e = let f : A → Option A = λ x. Some x in ap f e
  lift s t (x ∷ front) (low, lows) (next, goes, path) = (
    Some next,
    concat_first x goes (only_first x low s next goes),
    lift next t front lows path,
  )

  -- in a word
  pub star_in : (at : Option A) (s t : A) (bytes left : List ℕ) → at ≡ Some s → AreBytes bytes
      → Passes a s bytes t left → Reaches (star_grammar a) at bytes (Some t) left
  star_in at s t bytes left e low (it, stopped) =
      let P : Option A → Type 0 = λ p. Reaches (star_grammar a) p bytes (Some t) left in
      subst P (sym e) (record {
        front = it.front;
        splits = it.splits;
        path = lift s t it.front (below_front it.front left bytes it.splits low) it.path;
      })

  -- in a word, and then in what follows it
  pub star_goes : (at : Option A) (s t : A) (to : Option A) (bytes left rest : List ℕ)
      → at ≡ Some s → AreBytes bytes → Passes a s bytes t left
      → Passes (star_grammar a) (Some t) left to rest
      → Passes (star_grammar a) at bytes to rest
  star_goes at s t to bytes left rest e low one (two, stopped) = (
    reaches_both (star_grammar a) at (Some t) to bytes left rest
        (star_in at s t bytes left e low one) two,
    stopped,
  )

  pub star_begins : (at to : Option A) (bytes rest : List ℕ) → at ≡ None
      → Passes (star_grammar a) None bytes to rest → Passes (star_grammar a) at bytes to rest
  star_begins at to bytes rest e it =
      let P : Option A → Type 0 = λ p. Passes (star_grammar a) p bytes to rest in
      subst P (sym e) it

  -- the word is incomplete, or no byte follows
  pub star_ends : (at : Option A) (left : List ℕ) → InnerStopped a at left
      → (length left ≡ 0) ⊎ (StarResidual a at [] → ⊥) → IsStopped (StarResidual a at) left
  star_ends at [] stopped why = tt
  star_ends at (x ∷ left) stopped (inl none) = absurd (omega (arith, none))
  star_ends None (x ∷ left) stopped (inr not) = absurd (not none_yet)
  star_ends (Some s) (x ∷ left) never (inr not) =
      concat_never x never (λ empty. absurd (not (empty_concat empty none_yet)))

  -- no other word starts
  pub star_stops : (at : Option A) (u v : A) (left rest : List ℕ) → u ≡ a.start
      → InnerStopped a at left → Passes a u left v rest → length rest ≡ length left
      → IsStopped (StarResidual a at) left
  star_stops at u v left rest f stopped passes same =
      by at left stopped (stuck a u v left rest f passes same)
    where
      after : (x : ℕ) → NeverStarts (a.residual a.start) x → (at : Option A) (left : List ℕ)
          → InnerStopped a at (x ∷ left) → NeverStarts (StarResidual a at) x
      after x none None left stopped = repeated_never solid x none
      after x none (Some s) left never =
          concat_never x never (λ empty. repeated_never solid x none)

      by : (at : Option A) (left : List ℕ) → InnerStopped a at left
          → IsStopped (a.residual a.start) left → IsStopped (StarResidual a at) left
      by at [] stopped none = tt
      by at (x ∷ left) stopped none = after x none at left stopped

  -- another word starts
  pub star_turns : (from at : Option A) (u v : A) (bytes left rest : List ℕ) → u ≡ a.start
      → AreBytes left → Reaches (star_grammar a) from bytes at left → InnerStopped a at left
      → StarResidual a at [] → Passes a u left v rest → (length rest ≡ length left → ⊥)
      → Reaches (star_grammar a) from bytes (Some v) rest
  star_turns from at u v bytes left rest f low led stopped whole (starts, ends) more =
      let Q : A → Type 0 = λ p. Reaches a p left v rest in
      let begun = subst Q f starts in
      reaches_both (star_grammar a) from at (Some v) bytes left rest led (record {
        front = begun.front;
        splits = begun.splits;
        path = by begun.front begun.splits begun.path
            (below_front begun.front rest left begun.splits low);
      })
    where
      after : (x : ℕ) (next : A) → Derivative (a.residual a.start) (x ∷ []) (a.residual next)
          → (at : Option A) (left : List ℕ) → InnerStopped a at (x ∷ left) → StarResidual a at []
          → Derivative (StarResidual a at) (x ∷ []) (StarResidual a (Some next))
      after x next goes None left stopped whole = repeated_byte solid x goes
      after x next goes (Some s) left never whole =
          concat_second x never (concat_empty whole).0 (repeated_byte solid x goes)

      by : (front : List ℕ) → left ≡ front ++ rest → Path a a.start front v → AreBytes front
          → Path (star_grammar a) at front (Some v)
      by [] splits path low = absurd (more (sym (ap (λ l. length l) splits)))
      by (x ∷ front) splits (next, goes, path) (here, lows) =
          let R : List ℕ → Type 0 = λ l. InnerStopped a at l in (
            Some next,
            after x next goes at (front ++ rest) (subst R splits stopped) whole,
            lift next v front lows path,
          )

  more : HasNonEmpty (Repeated (a.residual a.start))
  more = let (word, residual) = la.live a.start in by word residual
    where
      by : (word : List ℕ) → a.residual a.start word → HasNonEmpty (Repeated (a.residual a.start))
      by [] residual = absurd (solid residual)
      by (b ∷ word) residual = (b, word ++ [], once_more (concat (b ∷ word) [] residual none_yet))

  pub star_over : (at : Option A) → HasEnded (star_grammar a) at false
  star_over None = more
  star_over (Some s) = let (word, residual) = la.live s in nonempty_second word residual more

  pub star_lawful : Lawful (star_grammar a)
  star_lawful = record {
    first = rest_first;
    next = next;
    null = λ it. refl;
    live = live;
  }
    where
      next : (at : Option A) (x : ℕ) (word : List ℕ) → StarResidual a at []
          → StarResidual a at (x ∷ word)
          → IsTrue (a.firsts x || a.nexts x)
      next None x word it more = or_left (a.firsts x) (a.nexts x) (rest_first x word more)
      next (Some s) x word it more = by (concat_cases more)
        where
          by : (a.residual s [] × Repeated (a.residual a.start) (x ∷ word))
              ⊎ ((left : List ℕ) × (right : List ℕ) × (word ≡ left ++ right)
              × a.residual s (x ∷ left) × Repeated (a.residual a.start) right)
              → IsTrue (a.firsts x || a.nexts x)
          by (inl (one, two)) = or_left (a.firsts x) (a.nexts x) (rest_first x word two)
          by (inr (left, right, e, one, two)) = or_right (a.firsts x) (a.nexts x)
              (la.next s x left (concat_empty it).0 one)

      live : (at : Option A) → (word : List ℕ) × StarResidual a at word
      live None = ([], none_yet)
      live (Some s) = let (left, one) = la.live s in (left ++ [], concat left [] one none_yet)

-- ---- one or more words

abbrev pub some_grammar : {A : Type 0} → Grammar A → Grammar (Option A)
some_grammar a = record {
  start = Some a.start;
  residual = StarResidual a;
  firsts = a.firsts;
  nexts = λ x. a.firsts x || a.nexts x;
  nullable = false;
}

module _ {A : Type 0} (a : Grammar A) (la : Lawful a) (filled : a.nullable ≡ false)
    (disjoint : AreDisjoint a.nexts a.firsts) where
  same_path : (s t : Option A) (front : List ℕ) → Path (star_grammar a) s front t
      → Path (some_grammar a) s front t
  same_path s t [] e = e
  same_path s t (x ∷ front) (next, goes, path) = (next, goes, same_path next t front path)

  pub some_passes : (at to : Option A) (bytes rest : List ℕ)
      → Passes (star_grammar a) at bytes to rest → Passes (some_grammar a) at bytes to rest
  some_passes at to bytes rest (it, stopped) = (
    record { front = it.front; splits = it.splits; path = same_path at to it.front it.path },
    stopped,
  )

  pub some_over : (at : Option A) → HasEnded (some_grammar a) at false
  some_over at = star_over a la filled disjoint at

  pub some_lawful : Lawful (some_grammar a)
  some_lawful = record {
    first = λ x word it. by x word (concat_cases it);
    next = laws.next;
    null = λ it. absurd (solid a la filled disjoint (concat_empty it).0);
    live = laws.live;
  }
    where
      laws : Lawful (star_grammar a)
      laws = star_lawful a la filled disjoint

      by : (x : ℕ) (word : List ℕ)
          → (a.residual a.start [] × Repeated (a.residual a.start) (x ∷ word))
          ⊎ ((left : List ℕ) × (right : List ℕ) × (word ≡ left ++ right)
          × a.residual a.start (x ∷ left) × Repeated (a.residual a.start) right)
          → IsTrue (a.firsts x)
      by x word (inl (empty, _)) = absurd (solid a la filled disjoint empty)
      by x word (inr (left, right, e, one, two)) = la.first x left one
