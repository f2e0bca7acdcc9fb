-- The grammar of a choice that the first byte decides.
use Rattle.std.specs.Prelude.{◌≡◌, ◌⊎◌, ◌<◌, ℕ, List, [], ◌∷◌, ◌++◌, Bool, true, false, IsTrue}
use Rattle.std.specs.Prelude.{◌&&◌, ◌||◌, ◌↔◌, length}
use Rattle.std.proofs.Common.{inl, inr, sym, subst, ap}
use Rattle.machines.specs.Grammar.{AreDisjoint, HasEnded, Grammar, IsStopped, Lawful, Reaches, Path}
use Rattle.machines.specs.Grammar.{Passes}
use Rattle.machines.specs.Languages.{Derivative, AreBytes, Language}
use Rattle.machines.specs.Bounds.{and_both, disjoint_by, or_left, or_right}
use Rattle.machines.specs.Paths.{below_front, here, stuck}
use Rattle.machines.specs.declared.alt.Branch.{Branch}
use Rattle.machines.specs.declared.alt.Branch.TheVariants.{Left, Neither, Right}

-- `Either L K`: a word of `L` or of `K`.
abbrev pub Either : Language → Language → Language
Either L K bytes = L bytes ⊎ K bytes

abbrev pub AltResidual : {A B : Type 0} → Grammar A → Grammar B → Branch A B → Language
AltResidual a b Neither = Either (a.residual a.start) (b.residual b.start)
AltResidual a b (Left s) = a.residual s
AltResidual a b (Right s) = b.residual s

abbrev pub alt_grammar : {A B : Type 0} → Grammar A → Grammar B → Grammar (Branch A B)
alt_grammar a b = record {
  start = Neither;
  residual = AltResidual a b;
  firsts = λ x. a.firsts x || b.firsts x;
  nexts = λ x. (a.nexts x || b.nexts x)
      || ((a.nullable && b.firsts x) || (b.nullable && a.firsts x));
  nullable = a.nullable || b.nullable;
}

module _ {A B : Type 0} (a : Grammar A) (b : Grammar B) (la : Lawful a) (lb : Lawful b)
    (disjoint : AreDisjoint a.firsts b.firsts) where
  lift_left : (s t : A) (front : List ℕ) → Path a s front t
      → Path (alt_grammar a b) (Left s) front (Left t)
  lift_left s t [] e = let f : A → Branch A B = λ x. Left x in ap f e
  lift_left s t (x ∷ front) (next, goes, path) = (Left next, goes, lift_left next t front path)

  lift_right : (s t : B) (front : List ℕ) → Path b s front t
      → Path (alt_grammar a b) (Right s) front (Right t)
  lift_right s t [] e = let f : B → Branch A B = λ x. Right x in ap f e
  lift_right s t (x ∷ front) (next, goes, path) =
      (Right next, goes, lift_right next t front path)

  first_left : (x : ℕ) (s : A) → Derivative (a.residual a.start) (x ∷ []) (a.residual s)
      → IsTrue (a.firsts x)
  first_left x s goes =
      let (word, residual) = la.live s in la.first x word (goes.there word residual)

  first_right : (x : ℕ) (s : B) → Derivative (b.residual b.start) (x ∷ []) (b.residual s)
      → IsTrue (b.firsts x)
  first_right x s goes =
      let (word, residual) = lb.live s in lb.first x word (goes.there word residual)

  take_left : (x : ℕ) → x < 256 → (s : A) → Derivative (a.residual a.start) (x ∷ []) (a.residual s)
      → Derivative (AltResidual a b Neither) (x ∷ []) (a.residual s)
  take_left x low s goes = record {
    there = λ word it. inl (goes.there word it);
    back = λ word it. by word it;
  }
    where
      by : (word : List ℕ) → Either (a.residual a.start) (b.residual b.start) (x ∷ word)
          → a.residual s word
      by word (inl it) = goes.back word it
      by word (inr it) = absurd (disjoint_by a.firsts b.firsts disjoint x low (first_left x s goes)
          (lb.first x word it))

  take_right : (x : ℕ) → x < 256 → (s : B) → Derivative (b.residual b.start) (x ∷ []) (b.residual s)
      → Derivative (AltResidual a b Neither) (x ∷ []) (b.residual s)
  take_right x low s goes = record {
    there = λ word it. inr (goes.there word it);
    back = λ word it. by word it;
  }
    where
      by : (word : List ℕ) → Either (a.residual a.start) (b.residual b.start) (x ∷ word)
          → b.residual s word
      by word (inl it) = absurd (disjoint_by a.firsts b.firsts disjoint x low (la.first x word it)
          (first_right x s goes))
      by word (inr it) = goes.back word it

  pub alt_left : (at : Branch A B) (u v : A) (bytes rest : List ℕ) → at ≡ Neither → u ≡ a.start
      → AreBytes bytes → Passes a u bytes v rest → (length rest ≡ length bytes → ⊥)
      → Passes (alt_grammar a b) at bytes (Left v) rest
  alt_left at u v bytes rest e f low (starts, ends) more =
      let P : Branch A B → Type 0 = λ p. Passes (alt_grammar a b) p bytes (Left v) rest in
      let Q : A → Type 0 = λ p. Reaches a p bytes v rest in
      let begun = subst Q f starts in
      subst P (sym e) (
        record {
          front = begun.front;
          splits = begun.splits;
          path = by begun.front begun.splits begun.path
              (below_front begun.front rest bytes begun.splits low);
        },
        ends,
      )
    where
      by : (front : List ℕ) → bytes ≡ front ++ rest → Path a a.start front v → AreBytes front
          → Path (alt_grammar a b) Neither front (Left v)
      by [] splits path low = absurd (more (sym (ap (λ l. length l) splits)))
      by (x ∷ front) splits (next, goes, path) (first, lows) =
          (Left next, take_left x first next goes, lift_left next v front path)

  pub alt_right : (at : Branch A B) (u v : B) (bytes rest : List ℕ) → at ≡ Neither
      → u ≡ b.start → AreBytes bytes → Passes b u bytes v rest → (length rest ≡ length bytes → ⊥)
      → Passes (alt_grammar a b) at bytes (Right v) rest
  alt_right at u v bytes rest e f low (starts, ends) more =
      let P : Branch A B → Type 0 = λ p. Passes (alt_grammar a b) p bytes (Right v) rest in
      let Q : B → Type 0 = λ p. Reaches b p bytes v rest in
      let begun = subst Q f starts in
      subst P (sym e) (
        record {
          front = begun.front;
          splits = begun.splits;
          path = by begun.front begun.splits begun.path
              (below_front begun.front rest bytes begun.splits low);
        },
        ends,
      )
    where
      by : (front : List ℕ) → bytes ≡ front ++ rest → Path b b.start front v → AreBytes front
          → Path (alt_grammar a b) Neither front (Right v)
      by [] splits path low = absurd (more (sym (ap (λ l. length l) splits)))
      by (x ∷ front) splits (next, goes, path) (first, lows) =
          (Right next, take_right x first next goes, lift_right next v front path)

  pub alt_none : (at : Branch A B) (u v : A) (s t : B) (bytes rest left : List ℕ)
      → at ≡ Neither → u ≡ a.start → s ≡ b.start → Passes a u bytes v rest
      → length rest ≡ length bytes → Passes b s bytes t left → length left ≡ length bytes
      → Passes (alt_grammar a b) at bytes Neither bytes
  alt_none at u v s t bytes rest left e f h one same two also =
      let P : Branch A B → Type 0 = λ p. Passes (alt_grammar a b) p bytes Neither bytes in
      subst P (sym e) (
        here (alt_grammar a b) Neither bytes,
        by bytes (stuck a u v bytes rest f one same) (stuck b s t bytes left h two also),
      )
    where
      by : (bytes : List ℕ) → IsStopped (a.residual a.start) bytes
          → IsStopped (b.residual b.start) bytes
          → IsStopped (AltResidual a b Neither) bytes
      by [] one two = tt
      by (x ∷ bytes) one two = never
        where
          never : (word : List ℕ) → Either (a.residual a.start) (b.residual b.start) (x ∷ word) → ⊥
          never word (inl it) = one word it
          never word (inr it) = two word it

  pub alt_in_left : (at : Branch A B) (s t : A) (bytes left : List ℕ) → at ≡ Left s
      → Passes a s bytes t left → Passes (alt_grammar a b) at bytes (Left t) left
  alt_in_left at s t bytes left e (reaches, stopped) =
      let P : Branch A B → Type 0 = λ p. Passes (alt_grammar a b) p bytes (Left t) left in
      subst P (sym e) (
        record {
          front = reaches.front;
          splits = reaches.splits;
          path = lift_left s t reaches.front reaches.path;
        },
        stopped,
      )

  pub alt_in_right : (at : Branch A B) (s t : B) (bytes left : List ℕ) → at ≡ Right s
      → Passes b s bytes t left → Passes (alt_grammar a b) at bytes (Right t) left
  alt_in_right at s t bytes left e (reaches, stopped) =
      let P : Branch A B → Type 0 = λ p. Passes (alt_grammar a b) p bytes (Right t) left in
      subst P (sym e) (
        record {
          front = reaches.front;
          splits = reaches.splits;
          path = lift_right s t reaches.front reaches.path;
        },
        stopped,
      )

  pub alt_yes : (at : Branch A B) (s : A) → at ≡ Neither → s ≡ a.start → (p : Bool) → p ≡ true
      → a.residual s [] → IsTrue p ↔ AltResidual a b at []
  alt_yes at s e f p on residual =
      let P : Branch A B → Type 0 = λ x. IsTrue p ↔ AltResidual a b x [] in
      let Q : A → Type 0 = λ x. a.residual x [] in
      subst P (sym e) (λ is. inl (subst Q f residual), λ it. on)

  pub alt_other : (at : Branch A B) (s : A) (t : B) → at ≡ Neither → s ≡ a.start → t ≡ b.start
      → (q : Bool) → (a.residual s [] → ⊥) → IsTrue q ↔ b.residual t []
      → IsTrue q ↔ AltResidual a b at []
  alt_other at s t e f h q not two =
      let P : Branch A B → Type 0 = λ x. IsTrue q ↔ AltResidual a b x [] in
      let Q : A → Type 0 = λ x. a.residual x [] → ⊥ in
      let R : B → Type 0 = λ x. IsTrue q ↔ b.residual x [] in
      let second = subst R h two in
      subst P (sym e) (λ is. inr (second.0 is), λ it. by (subst Q f not) second it)
    where
      by : (a.residual a.start [] → ⊥) → IsTrue q ↔ b.residual b.start []
          → Either (a.residual a.start) (b.residual b.start) [] → IsTrue q
      by not second (inl it) = absurd (not it)
      by not second (inr it) = second.1 it

  pub alt_over : (at : Branch A B) (s : A) (t : B) → at ≡ Neither → s ≡ a.start → t ≡ b.start
      → (p q : Bool) → p ≡ true → HasEnded a s p → HasEnded b t q → HasEnded (alt_grammar a b) at q
  alt_over at s t e f h p q on one two =
      let P : Branch A B → Type 0 = λ x. HasEnded (alt_grammar a b) x q in
      let Q : A → Type 0 = λ x. HasEnded a x true in
      let R : B → Type 0 = λ x. HasEnded b x q in
      let T : Bool → Type 0 = λ x. HasEnded a s x in
      subst P (sym e) (by q (subst Q f (subst T on one)) (subst R h two))
    where
      by : (q : Bool) → HasEnded a a.start true → HasEnded b b.start q
          → HasEnded (alt_grammar a b) Neither q
      by true one two = never
        where
          never : (x : ℕ) (word : List ℕ)
              → Either (a.residual a.start) (b.residual b.start) (x ∷ word) → ⊥
          never x word (inl it) = one x word it
          never x word (inr it) = two x word it
      by false one two = (two.0, two.1, inr two.2)

  pub alt_open : (at : Branch A B) (s : A) → at ≡ Neither → s ≡ a.start → (p : Bool) → p ≡ false
      → HasEnded a s p → HasEnded (alt_grammar a b) at p
  alt_open at s e f p off one =
      let P : Branch A B → Type 0 = λ x. HasEnded (alt_grammar a b) x p in
      let Q : A → Type 0 = λ x. HasEnded a x p in
      subst P (sym e) (by p off (subst Q f one))
    where
      by : (p : Bool) → p ≡ false → HasEnded a a.start p → HasEnded (alt_grammar a b) Neither p
      by true off one = cc
      by false off one = (one.0, one.1, inl one.2)

  pub left_over : (at : Branch A B) (s : A) → at ≡ Left s → (p : Bool) → HasEnded a s p
      → HasEnded (alt_grammar a b) at p
  left_over at s e p one =
      let P : Branch A B → Type 0 =
      λ x. HasEnded (alt_grammar a b) x p in subst P (sym e) (by p one)
    where
      by : (p : Bool) → HasEnded a s p → HasEnded (alt_grammar a b) (Left s) p
      by true one = one
      by false one = one

  pub right_over : (at : Branch A B) (s : B) → at ≡ Right s → (p : Bool) → HasEnded b s p
      → HasEnded (alt_grammar a b) at p
  right_over at s e p one =
      let P : Branch A B → Type 0 =
      λ x. HasEnded (alt_grammar a b) x p in subst P (sym e) (by p one)
    where
      by : (p : Bool) → HasEnded b s p → HasEnded (alt_grammar a b) (Right s) p
      by true one = one
      by false one = one

  pub alt_lawful : Lawful (alt_grammar a b)
  alt_lawful = record { first = first; next = next; null = null; live = live }
    where
      first : (x : ℕ) (word : List ℕ) → Either (a.residual a.start) (b.residual b.start) (x ∷ word)
          → IsTrue (a.firsts x || b.firsts x)
      first x word (inl it) = or_left (a.firsts x) (b.firsts x) (la.first x word it)
      first x word (inr it) = or_right (a.firsts x) (b.firsts x) (lb.first x word it)

      null : Either (a.residual a.start) (b.residual b.start) [] → IsTrue (a.nullable || b.nullable)
      null (inl it) = or_left a.nullable b.nullable (la.null it)
      null (inr it) = or_right a.nullable b.nullable (lb.null it)

      near : (x : ℕ) → IsTrue (a.nexts x || b.nexts x) → IsTrue ((a.nexts x || b.nexts x)
          || ((a.nullable && b.firsts x) || (b.nullable && a.firsts x)))
      near x it = or_left (a.nexts x || b.nexts x)
          ((a.nullable && b.firsts x) || (b.nullable && a.firsts x)) it

      far : (x : ℕ) → IsTrue ((a.nullable && b.firsts x) || (b.nullable && a.firsts x))
          → IsTrue ((a.nexts x || b.nexts x)
          || ((a.nullable && b.firsts x) || (b.nullable && a.firsts x)))
      far x it = or_right (a.nexts x || b.nexts x)
          ((a.nullable && b.firsts x) || (b.nullable && a.firsts x)) it

      next : (at : Branch A B) (x : ℕ) (word : List ℕ) → AltResidual a b at []
          → AltResidual a b at (x ∷ word) → IsTrue ((a.nexts x || b.nexts x)
          || ((a.nullable && b.firsts x) || (b.nullable && a.firsts x)))
      next Neither x word (inl it) (inl more) =
          near x (or_left (a.nexts x) (b.nexts x) (la.next a.start x word it more))
      next Neither x word (inr it) (inr more) =
          near x (or_right (a.nexts x) (b.nexts x) (lb.next b.start x word it more))
      next Neither x word (inl it) (inr more) = far x (or_left (a.nullable && b.firsts x)
          (b.nullable && a.firsts x)
          (and_both a.nullable (b.firsts x) (la.null it) (lb.first x word more)))
      next Neither x word (inr it) (inl more) = far x (or_right (a.nullable && b.firsts x)
          (b.nullable && a.firsts x)
          (and_both b.nullable (a.firsts x) (lb.null it) (la.first x word more)))
      next (Left s) x word it more =
          near x (or_left (a.nexts x) (b.nexts x) (la.next s x word it more))
      next (Right s) x word it more =
          near x (or_right (a.nexts x) (b.nexts x) (lb.next s x word it more))

      live : (at : Branch A B) → (word : List ℕ) × AltResidual a b at word
      live Neither = let (word, residual) = la.live a.start in (word, inl residual)
      live (Left s) = la.live s
      live (Right s) = lb.live s
