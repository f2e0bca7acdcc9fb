-- Induction over the slots of a tree.
use Rattle.std.specs.Prelude.{◌≡◌, ℕ, ◌<◌, List, [], ◌∷◌, length, slice_get, Some}
use Rattle.std.proofs.Common.{refl, sym, ap, subst, inl, inr, ◌∙◌}
use Rattle.format_toml_nodes.specs.Laying.{Below}
use Rattle.format_toml_tree.proofs.Reached.{IsStep, reach, step_down}
use Rattle.format_toml_tree.specs.Added.{some_there}
use Rattle.format_toml_tree.specs.Holds.{Holds}
use Rattle.format_toml_tree.specs.Paths.{Path, Step, named, placed}
use Rattle.format_toml_tree.specs.Places.{nowhere}
use Rattle.format_toml_tree.specs.Rules.{nothing}
use Rattle.format_toml_tree.specs.Runs.{Tree}
use Rattle.format_toml_tree.specs.declared.tree.Slot.{Slot}

module _ {A : Type 0} {slots : List (Slot A)} {tree : Tree A} {path : ℕ → Path}
    (is : Holds slots tree path) (some : 0 < length slots) where
  so_below : (P : ℕ → Type 0) (s : Slot A) → Below s P → (e : Step) (k : ℕ) → IsStep s e k → P k
  so_below P s below (named name) k b = below.0 name k b
  so_below P s below (placed n) k b = below.1 n k b

  pub each_below : (P : ℕ → Type 0) → P 0
      → ((i : ℕ) (s : Slot A) → slice_get slots i ≡ Some s → Below s P)
      → (j : ℕ) → j < length slots → P j
  each_below P first below j w = by (path j) refl
    where
      never : (e : Step) (p : Path) → path j ≡ e ∷ p → tree (e ∷ p) ≡ nothing → ⊥
      never e p f none =
          let (s, g) = some_there slots j w in
          nowhere is j s g (e ∷ p) none (sym f)

      by : (q : Path) → path j ≡ q → P j
      by [] f = subst P (sym (is.apart j 0 w some (f ∙ sym is.top))) first
      by (e ∷ p) f = elim (reach is some p) [
        | inl none ↦ absurd (never e p f (is.below p e none))
        | inr (i, v, at) ↦
            let (s, g) = some_there slots i v in
            elim (step_down is some i s g e) [
              | inl none ↦ absurd (never e p f (ap (λ q. tree (e ∷ q)) (sym at) ∙ none))
              | inr (k, u, h, b) ↦
                  let same : k ≡ j = is.apart k j u w (h ∙ ap (λ q. e ∷ q) at ∙ sym f) in
                  subst P same (so_below P s (below i s g) e k b)
            ]
      ]
