-- The grammar of a machine that may be left out.
use Rattle.std.specs.Prelude.{◌≡◌, ◌⊎◌, ℕ, List, [], ◌∷◌, ◌++◌, Bool, true, false, IsTrue, Option}
use Rattle.std.specs.Prelude.{Some, None, ◌||◌, ◌↔◌, length}
use Rattle.std.proofs.Common.{inl, inr, refl, sym, subst, ap}
use Rattle.machines.specs.Bounds.{or_left, or_right}
use Rattle.machines.specs.Grammar.{Grammar, HasEnded, IsStopped, Lawful, Passes, Path, Reaches}
use Rattle.machines.specs.Languages.{Derivative, Language}
use Rattle.machines.specs.Paths.{here, stuck}

-- `OrNothing L`: a word of `L`, or the empty word.
abbrev pub OrNothing : Language → Language
OrNothing L bytes = (bytes ≡ []) ⊎ L bytes

abbrev pub OptResidual : {A : Type 0} → Grammar A → Option A → Language
OptResidual a None = OrNothing (a.residual a.start)
OptResidual a (Some s) = a.residual s

abbrev pub opt_grammar : {A : Type 0} → Grammar A → Grammar (Option A)
opt_grammar a = record {
  start = None;
  residual = OptResidual a;
  firsts = a.firsts;
  nexts = λ x. a.nexts x || a.firsts x;
  nullable = true;
}

module _ {A : Type 0} (a : Grammar A) where
  nonempty : (L : Language) (x : ℕ) (word : List ℕ) → OrNothing L (x ∷ word) → L (x ∷ word)
  nonempty L x word (inl e) = cc
  nonempty L x word (inr it) = it

  opt_step : (x : ℕ) (t : A) → Derivative (a.residual a.start) (x ∷ []) (a.residual t)
      → Derivative (OptResidual a None) (x ∷ []) (OptResidual a (Some t))
  opt_step x t goes = record {
    there = λ word it. inr (goes.there word it);
    back = λ word it. goes.back word (nonempty (a.residual a.start) x word it);
  }

  lift : (s t : A) (front : List ℕ) → Path a s front t
      → Path (opt_grammar a) (Some s) front (Some t)
  lift s t [] e = let f : A → Option A = λ x. Some x in ap f e
  lift s t (x ∷ front) (next, goes, path) = (Some next, goes, lift next t front path)

  pub opt_in : (at : Option A) (s t : A) (bytes left : List ℕ) → at ≡ Some s
      → Passes a s bytes t left → Passes (opt_grammar a) at bytes (Some t) left
  opt_in at s t bytes left e (it, stopped) =
      let P : Option A → Type 0 = λ p. Passes (opt_grammar a) p bytes (Some t) left in
      subst P (sym e) (
        record { front = it.front; splits = it.splits; path = lift s t it.front it.path },
        stopped,
      )

  pub opt_none : (at : Option A) (u v : A) (bytes left : List ℕ) → at ≡ None → u ≡ a.start
      → Passes a u bytes v left → length left ≡ length bytes
      → Passes (opt_grammar a) at bytes None bytes
  opt_none at u v bytes left e f passes same =
      let P : Option A → Type 0 = λ p. Passes (opt_grammar a) p bytes None bytes in
      subst P (sym e) (
        here (opt_grammar a) None bytes,
        by bytes (stuck a u v bytes left f passes same),
      )
    where
      by : (bytes : List ℕ) → IsStopped (a.residual a.start) bytes
          → IsStopped (OptResidual a None) bytes
      by [] never = tt
      by (x ∷ bytes) never = λ word it. never word (nonempty (a.residual a.start) x word it)

  pub opt_some : (at : Option A) (u v : A) (bytes left : List ℕ) → at ≡ None → u ≡ a.start
      → Passes a u bytes v left → (length left ≡ length bytes → ⊥)
      → Passes (opt_grammar a) at bytes (Some v) left
  opt_some at u v bytes left e f (starts, ends) more =
      let P : Option A → Type 0 = λ p. Passes (opt_grammar a) p bytes (Some v) left in
      let Q : A → Type 0 = λ p. Reaches a p bytes v left in
      let entered = subst Q f starts in
      subst P (sym e) (
        record {
          front = entered.front;
          splits = entered.splits;
          path = by entered.front entered.splits entered.path;
        },
        ends,
      )
    where
      by : (front : List ℕ) → bytes ≡ front ++ left → Path a a.start front v
          → Path (opt_grammar a) None front (Some v)
      by [] splits path = absurd (more (sym (ap (λ l. length l) splits)))
      by (x ∷ front) splits (next, goes, path) =
          (Some next, opt_step x next goes, lift next v front path)

  pub opt_done : (at : Option A) → at ≡ None → IsTrue true ↔ OptResidual a at []
  opt_done at e =
      let P : Option A → Type 0 = λ p. IsTrue true ↔ OptResidual a p [] in
      subst P (sym e) (λ is. inl refl, λ it. refl)

  pub opt_inner : (at : Option A) (s : A) → at ≡ Some s → (p : Bool) → IsTrue p ↔ a.residual s []
      → IsTrue p ↔ OptResidual a at []
  opt_inner at s e p it =
      let P : Option A → Type 0 = λ o. IsTrue p ↔ OptResidual a o [] in subst P (sym e) it

  pub opt_over : (at : Option A) (s : A) → at ≡ None → s ≡ a.start → (p : Bool)
      → HasEnded a s p → HasEnded (opt_grammar a) at p
  opt_over at s e f p it =
      let P : Option A → Type 0 = λ o. HasEnded (opt_grammar a) o p in
      let Q : A → Type 0 = λ o. HasEnded a o p in subst P (sym e) (by p (subst Q f it))
    where
      by : (p : Bool) → HasEnded a a.start p → HasEnded (opt_grammar a) None p
      by true never = λ x word it. never x word (nonempty (a.residual a.start) x word it)
      by false (x, word, it) = (x, word, inr it)

  pub inner_over : (at : Option A) (s : A) → at ≡ Some s → (p : Bool) → HasEnded a s p
      → HasEnded (opt_grammar a) at p
  inner_over at s e p it =
      let P : Option A → Type 0 = λ o. HasEnded (opt_grammar a) o p in subst P (sym e) (by p it)
    where
      by : (p : Bool) → HasEnded a s p → HasEnded (opt_grammar a) (Some s) p
      by true it = it
      by false it = it

  pub opt_lawful : Lawful a → Lawful (opt_grammar a)
  opt_lawful la = record {
    first = λ x word it. la.first x word (nonempty (a.residual a.start) x word it);
    next = next;
    null = λ it. refl;
    live = live;
  }
    where
      next : (at : Option A) (x : ℕ) (word : List ℕ) → OptResidual a at []
          → OptResidual a at (x ∷ word) → IsTrue (a.nexts x || a.firsts x)
      next None x word it more = or_right (a.nexts x) (a.firsts x)
          (la.first x word (nonempty (a.residual a.start) x word more))
      next (Some s) x word it more = or_left (a.nexts x) (a.firsts x) (la.next s x word it more)

      live : (at : Option A) → (word : List ℕ) × OptResidual a at word
      live None = ([], inl refl)
      live (Some s) = la.live s
