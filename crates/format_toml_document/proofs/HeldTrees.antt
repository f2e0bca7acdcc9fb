-- Proofs that slots hold one tree: it has the same contents at each path.
use Rattle.std.specs.Prelude.{◌≡◌, ◌⊎◌, ◌<◌, ℕ, List, [], ◌∷◌, Option, Some, None, length}
use Rattle.std.specs.Prelude.{slice_get}
use Rattle.std.proofs.Common.{sym, ap, inl, inr, refl, ◌∙◌}
use Rattle.std.proofs.lemmas.Bool.{cases_lt}
use Rattle.format_toml_tree.specs.Added.{some_there}
use Rattle.format_toml_tree.specs.Holds.{Holds, HoldsTree, find}
use Rattle.format_toml_tree.specs.Paths.{Path, Step, named, placed}
use Rattle.format_toml_tree.specs.Rules.{nothing}
use Rattle.format_toml_tree.specs.Runs.{Tree}
use Rattle.format_toml_tree.specs.declared.tree.Slot.{Slot}

module _ {A : Type 0} (slots : List (Slot A)) (t u : Tree A) (paths other : ℕ → Path)
    (is : Holds slots t paths) (at : Holds slots u other) where
  -- both have nothing there, or a slot is there in both
  abbrev AreHeld : Path → Type 0
  AreHeld p =
      ((t p ≡ nothing) × (u p ≡ nothing))
      ⊎ ((i : ℕ) × (i < length slots) × (paths i ≡ p) × (other i ≡ p))

  module _ (p : Path) (i : ℕ) (s : Slot A) (there : slice_get slots i ≡ Some s)
      (e : paths i ≡ p) (f : other i ≡ p) where
    held_named : (name : List ℕ) → AreHeld (named name ∷ p)
    held_named name = by (find s.places name) refl
      where
        by : (o : Option ℕ) → find s.places name ≡ o → AreHeld (named name ∷ p)
        by (Some j) found =
            let (within, here) = is.found i s there name j found in inr (
              j,
              within,
              here ∙ ap (λ q. named name ∷ q) e,
              (at.found i s there name j found).1 ∙ ap (λ q. named name ∷ q) f,
            )
        by None missing = inl (
          ap (λ q. t (named name ∷ q)) (sym e) ∙ is.missing i s there name missing,
          ap (λ q. u (named name ∷ q)) (sym f) ∙ at.missing i s there name missing,
        )

    held_placed : (k : ℕ) → AreHeld (placed k ∷ p)
    held_placed k = elim (cases_lt k (length s.elements.items)) [
      | inl less ↦
          let (j, found) = some_there s.elements.items k less in
          let (within, here) = is.elements i s there k j found in inr (
            j,
            within,
            here ∙ ap (λ q. placed k ∷ q) e,
            (at.elements i s there k j found).1 ∙ ap (λ q. placed k ∷ q) f,
          )
      | inr past ↦ inl (
        ap (λ q. t (placed k ∷ q)) (sym e) ∙ is.beyond i s there k past,
        ap (λ q. u (placed k ∷ q)) (sym f) ∙ at.beyond i s there k past,
      )
    ]

    held_below : (step : Step) → AreHeld (step ∷ p)
    held_below (named name) = held_named name
    held_below (placed k) = held_placed k

  held : 0 < length slots → (p : Path) → AreHeld p
  held some [] = inr (0, some, is.top, at.top)
  held some (step ∷ p) = elim (held some p) [
    | inl (none, also) ↦ inl (is.below p step none, at.below p step also)
    | inr (i, within, e, f) ↦
        let (s, there) = some_there slots i within in held_below p i s there e f step
  ]

  held_once : 0 < length slots → (p : Path) → t p ≡ u p
  held_once some p = elim (held some p) [
    | inl (none, also) ↦ none ∙ sym also
    | inr (i, within, e, f) ↦
        let (s, there) = some_there slots i within in
        ap t (sym e) ∙ is.there i s there ∙ sym (at.there i s there) ∙ ap u f
  ]

pub one_held : {A : Type 0} (slots : List (Slot A)) (t u : Tree A) → HoldsTree slots t
    → HoldsTree slots u → (p : Path) → t p ≡ u p
one_held slots t u (paths, is, some) (other, at, also) =
    held_once slots t u paths other is at some
