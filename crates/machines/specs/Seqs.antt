-- The grammar of two machines in sequence.
use Rattle.std.specs.Prelude.{◌≡◌, ◌⊎◌, ◌<◌, ℕ, List, [], ◌∷◌, ◌++◌, Bool, true, false, IsTrue}
use Rattle.std.specs.Prelude.{◌&&◌, ◌||◌, ◌↔◌, length}
use Rattle.std.proofs.Common.{◌∙◌, inl, inr, sym, subst, ap, arith}
use Rattle.machines.specs.Grammar.{AreDisjoint, HasEnded, Grammar, IsStopped, Lawful, Reaches, Path}
use Rattle.machines.specs.Grammar.{Passes}
use Rattle.machines.specs.Paths.{below_front, reaches_both, stuck}
use Rattle.machines.specs.Concats.{empty_concat, concat, concat_cases, concat_empty, concat_first}
use Rattle.machines.specs.Concats.{concat_never, concat_second, nonempty_first, nonempty_second}
use Rattle.machines.specs.Languages.{Derivative, AreBytes, Concat, Language, NeverStarts}
use Rattle.machines.specs.Bounds.{and_both, disjoint_by, or_left, or_right}
use Rattle.machines.specs.declared.seq.Stage.{Stage}
use Rattle.machines.specs.declared.seq.Stage.TheVariants.{First, Second}

abbrev pub SeqResidual : {A B : Type 0} → Grammar A → Grammar B → Stage A B → Language
SeqResidual a b (First s) = Concat (a.residual s) (b.residual b.start)
SeqResidual a b (Second s) = b.residual s

abbrev pub seq_grammar : {A B : Type 0} → Grammar A → Grammar B → Grammar (Stage A B)
seq_grammar a b = record {
  start = First a.start;
  residual = SeqResidual a b;
  firsts = λ x. a.firsts x || (a.nullable && b.firsts x);
  nexts = λ x. b.nexts x || (b.nullable && (a.nexts x || b.firsts x));
  nullable = a.nullable && b.nullable;
}

module _ {A B : Type 0} (a : Grammar A) (b : Grammar B) (la : Lawful a) (lb : Lawful b)
    (disjoint : AreDisjoint a.nexts b.firsts) where
  -- a byte that continues a word of the first does not start one of the second
  only_first : (x : ℕ) → x < 256 → (s t : A) → Derivative (a.residual s) (x ∷ []) (a.residual t)
      → a.residual s []
      → NeverStarts (b.residual b.start) x
  only_first x low s t goes empty word it =
      let (rest, residual) = la.live t in
      disjoint_by a.nexts b.firsts disjoint x low
      (la.next s x rest empty (goes.there rest residual)) (lb.first x word it)

  lift_first : (s t : A) (front : List ℕ) → AreBytes front → Path a s front t
      → Path (seq_grammar a b) (First s) front (First t)
  lift_first s t [] low e = let f : A → Stage A B = λ x. First x in ap f e
  lift_first s t (x ∷ front) (low, lows) (next, goes, path) = (
    First next,
    concat_first x goes (only_first x low s next goes),
    lift_first next t front lows path,
  )

  lift_second : (s t : B) (front : List ℕ) → Path b s front t
      → Path (seq_grammar a b) (Second s) front (Second t)
  lift_second s t [] e = let f : B → Stage A B = λ x. Second x in ap f e
  lift_second s t (x ∷ front) (next, goes, path) =
      (Second next, goes, lift_second next t front path)

  in_first : (s t : A) (bytes left : List ℕ) → AreBytes bytes → Reaches a s bytes t left
      → Reaches (seq_grammar a b) (First s) bytes (First t) left
  in_first s t bytes left low it = record {
    front = it.front;
    splits = it.splits;
    path = lift_first s t it.front (below_front it.front left bytes it.splits low) it.path;
  }

  -- the first is incomplete, or no byte follows
  pub seq_waits : (at : Stage A B) (s t : A) (bytes left : List ℕ) → at ≡ First s → AreBytes bytes
      → Passes a s bytes t left → (length left ≡ 0) ⊎ (a.residual t [] → ⊥)
      → Passes (seq_grammar a b) at bytes (First t) left
  seq_waits at s t bytes left e low (reaches, stopped) why =
      let P : Stage A B → Type 0 = λ p. Passes (seq_grammar a b) p bytes (First t) left in
      subst P (sym e) (in_first s t bytes left low reaches, by left stopped why)
    where
      by : (left : List ℕ) → IsStopped (a.residual t) left
          → (length left ≡ 0) ⊎ (a.residual t [] → ⊥)
          → IsStopped (SeqResidual a b (First t)) left
      by [] stopped why = tt
      by (x ∷ left) never (inl none) = absurd (omega (arith, none))
      by (x ∷ left) never (inr not) = concat_never x never (λ empty. absurd (not empty))

  -- the second does not start
  pub seq_stays : (at : Stage A B) (s t : A) (u v : B) (bytes left rest : List ℕ) → at ≡ First s
      → u ≡ b.start → AreBytes bytes → Passes a s bytes t left → Passes b u left v rest
      → length rest ≡ length left → Passes (seq_grammar a b) at bytes (First t) left
  seq_stays at s t u v bytes left rest e f low (reaches, stopped) passes same =
      let P : Stage A B → Type 0 = λ p. Passes (seq_grammar a b) p bytes (First t) left in
      subst P (sym e) (
        in_first s t bytes left low reaches,
        by left stopped (stuck b u v left rest f passes same),
      )
    where
      by : (left : List ℕ) → IsStopped (a.residual t) left → IsStopped (b.residual b.start) left
          → IsStopped (SeqResidual a b (First t)) left
      by [] stopped none = tt
      by (x ∷ left) never none = concat_never x never (λ empty. none)

  -- the second starts
  pub seq_turns : (at : Stage A B) (s t : A) (u v : B) (bytes left rest : List ℕ) → at ≡ First s
      → u ≡ b.start → AreBytes bytes → Passes a s bytes t left → a.residual t []
      → Passes b u left v rest
      → (length rest ≡ length left → ⊥) → Passes (seq_grammar a b) at bytes (Second v) rest
  seq_turns at s t u v bytes left rest e f low (reaches, stopped) empty (starts, ends) more =
      let P : Stage A B → Type 0 = λ p. Passes (seq_grammar a b) p bytes (Second v) rest in
      let Q : B → Type 0 = λ p. Reaches b p left v rest in
      let begun = subst Q f starts in
      subst P (sym e) (
        reaches_both (seq_grammar a b) (First s) (First t) (Second v) bytes left rest
            (in_first s t bytes left low reaches)
            (record {
              front = begun.front;
              splits = begun.splits;
              path = by begun.front begun.splits begun.path;
            }),
        ends,
      )
    where
      by : (front : List ℕ) → left ≡ front ++ rest → Path b b.start front v
          → Path (seq_grammar a b) (First t) front (Second v)
      by [] splits path = absurd (more (sym (ap (λ l. length l) splits)))
      by (x ∷ front) splits (next, goes, path) =
          let R : List ℕ → Type 0 = λ l. IsStopped (a.residual t) l in (
            Second next,
            concat_second x (subst R splits stopped) empty goes,
            lift_second next v front path,
          )

  pub seq_second : (at : Stage A B) (s t : B) (bytes left : List ℕ) → at ≡ Second s
      → Passes b s bytes t left → Passes (seq_grammar a b) at bytes (Second t) left
  seq_second at s t bytes left e (reaches, stopped) =
      let P : Stage A B → Type 0 = λ p. Passes (seq_grammar a b) p bytes (Second t) left in
      subst P (sym e) (
        record {
          front = reaches.front;
          splits = reaches.splits;
          path = lift_second s t reaches.front reaches.path;
        },
        stopped,
      )

  pub seq_done : (at : Stage A B) (s : A) (t : B) → at ≡ First s → t ≡ b.start → (q : Bool)
      → a.residual s [] → IsTrue q ↔ b.residual t [] → IsTrue q ↔ SeqResidual a b at []
  seq_done at s t e f q one two =
      let P : Stage A B → Type 0 = λ x. IsTrue q ↔ SeqResidual a b x [] in
      let Q : B → Type 0 = λ x. IsTrue q ↔ b.residual x [] in
      let at_start = subst Q f two in
      subst P (sym e) (
        λ is. empty_concat one (at_start.0 is),
        λ it. at_start.1 (concat_empty it).1,
      )

  pub seq_undone : (at : Stage A B) (s : A) → at ≡ First s → (p : Bool) → IsTrue p ↔ a.residual s []
      → p ≡ false → IsTrue p ↔ SeqResidual a b at []
  seq_undone at s e p one off =
      let P : Stage A B → Type 0 = λ x. IsTrue p ↔ SeqResidual a b x [] in
      subst P (sym e) (λ is. absurd (by is), λ it. one.1 (concat_empty it).0)
    where
      by : IsTrue p → ⊥
      by is = let e : true ≡ false = sym is ∙ off in cc

  pub seq_over : (at : Stage A B) (s : A) (t : B) → at ≡ First s → t ≡ b.start → (p q : Bool)
      → p ≡ true → HasEnded a s p → HasEnded b t q → HasEnded (seq_grammar a b) at q
  seq_over at s t e f p q on one two =
      let P : Stage A B → Type 0 = λ x. HasEnded (seq_grammar a b) x q in
      let Q : B → Type 0 = λ x. HasEnded b x q in
      let R : Bool → Type 0 = λ x. HasEnded a s x in
      subst P (sym e) (by q (subst R on one) (subst Q f two))
    where
      by : (q : Bool) → HasEnded a s true → HasEnded b b.start q
          → HasEnded (seq_grammar a b) (First s) q
      by true one two = λ x. concat_never x (one x) (λ empty. two x)
      by false one two = let (word, residual) = la.live s in nonempty_second word residual two

  pub seq_open : (at : Stage A B) (s : A) → at ≡ First s → (p : Bool) → p ≡ false → HasEnded a s p
      → HasEnded (seq_grammar a b) at p
  seq_open at s e p off one =
      let P : Stage A B → Type 0 = λ x. HasEnded (seq_grammar a b) x p in
      subst P (sym e) (by p off one)
    where
      by : (p : Bool) → p ≡ false → HasEnded a s p → HasEnded (seq_grammar a b) (First s) p
      by true off one = cc
      by false off one = let (word, residual) = lb.live b.start in nonempty_first one word residual

  pub second_over : (at : Stage A B) (s : B) → at ≡ Second s → (p : Bool) → HasEnded b s p
      → HasEnded (seq_grammar a b) at p
  second_over at s e p one =
      let P : Stage A B → Type 0 = λ x. HasEnded (seq_grammar a b) x p in
      subst P (sym e) (by p one)
    where
      by : (p : Bool) → HasEnded b s p → HasEnded (seq_grammar a b) (Second s) p
      by true one = one
      by false one = one

  pub seq_lawful : Lawful (seq_grammar a b)
  seq_lawful = record {
    first = λ x word it. first x (concat_cases it);
    next = next;
    null = λ it. let (one, two) = concat_empty it in
        and_both a.nullable b.nullable (la.null one) (lb.null two);
    live = live;
  }
    where
      first : (x : ℕ) {word : List ℕ} → (a.residual a.start [] × b.residual b.start (x ∷ word))
          ⊎ ((left : List ℕ) × (right : List ℕ) × (word ≡ left ++ right)
          × a.residual a.start (x ∷ left) × b.residual b.start right)
          → IsTrue (a.firsts x || (a.nullable && b.firsts x))
      first x {word = word} (inl (one, two)) = or_right (a.firsts x) (a.nullable && b.firsts x)
          (and_both a.nullable (b.firsts x) (la.null one) (lb.first x word two))
      first x (inr (left, right, e, one, two)) =
          or_left (a.firsts x) (a.nullable && b.firsts x) (la.first x left one)

      either : (x : ℕ) (s : A) {word : List ℕ} → a.residual s []
          → (a.residual s [] × b.residual b.start (x ∷ word))
          ⊎ ((left : List ℕ) × (right : List ℕ) × (word ≡ left ++ right)
          × a.residual s (x ∷ left) × b.residual b.start right)
          → IsTrue (a.nexts x || b.firsts x)
      either x s {word = word} empty (inl (one, two)) =
          or_right (a.nexts x) (b.firsts x) (lb.first x word two)
      either x s empty (inr (left, right, e, one, two)) =
          or_left (a.nexts x) (b.firsts x) (la.next s x left empty one)

      next : (at : Stage A B) (x : ℕ) (word : List ℕ) → SeqResidual a b at []
          → SeqResidual a b at (x ∷ word)
          → IsTrue (b.nexts x || (b.nullable && (a.nexts x || b.firsts x)))
      next (First s) x word it more = let (one, two) = concat_empty it in
          or_right (b.nexts x) (b.nullable && (a.nexts x || b.firsts x))
          (and_both b.nullable (a.nexts x || b.firsts x) (lb.null two)
          (either x s one (concat_cases more)))
      next (Second s) x word it more =
          or_left (b.nexts x) (b.nullable && (a.nexts x || b.firsts x)) (lb.next s x word it more)

      live : (at : Stage A B) → (word : List ℕ) × SeqResidual a b at word
      live (First s) =
          let (left, one) = la.live s in
          let (right, two) = lb.live b.start in (left ++ right, concat left right one two)
      live (Second s) = lb.live s
