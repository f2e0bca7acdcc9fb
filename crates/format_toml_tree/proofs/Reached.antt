-- Each path at which there is something is that of a slot.
use Rattle.std.specs.Prelude.{◌≡◌, ◌⊎◌, ℕ, zero, suc, ◌<◌, ◌≤◌, List, [], ◌∷◌, length, slice_get}
use Rattle.std.specs.Prelude.{Option, Some, None}
use Rattle.std.proofs.Common.{refl, sym, ap, inl, inr, ◌∙◌, arith}
use Rattle.format_toml_tree.specs.Added.{some_there}
use Rattle.format_toml_tree.specs.Holds.{Holds, find}
use Rattle.format_toml_tree.specs.Paths.{Path, Step, named, placed}
use Rattle.format_toml_tree.specs.Rules.{nothing}
use Rattle.format_toml_tree.specs.Runs.{Tree}
use Rattle.format_toml_tree.specs.declared.tree.Slot.{Slot}

past_end : {X : Type 0} (xs : List X) (k : ℕ) → slice_get xs k ≡ None → length xs ≤ k
past_end [] k e = omega arith
past_end (x ∷ xs) zero e = absurd (cc)
past_end (x ∷ xs) (suc k) e = let less = past_end xs k e in omega (arith, less)

module _ {A : Type 0} where
  -- the place is an entry of this one at this name, or an element there
  abbrev pub IsStep : Slot A → Step → ℕ → Type 0
  IsStep s (named name) j = find s.places name ≡ Some j
  IsStep s (placed k) j = slice_get s.elements.items k ≡ Some j

module _ {A : Type 0} {slots : List (Slot A)} {tree : Tree A} {path : ℕ → Path}
    (is : Holds slots tree path) (some : 0 < length slots) where
  abbrev Stepped : ℕ → Slot A → Step → Type 0
  Stepped i s e = (tree (e ∷ path i) ≡ nothing)
      ⊎ ((j : ℕ) × (j < length slots) × (path j ≡ e ∷ path i) × IsStep s e j)

  pub step_down : (i : ℕ) (s : Slot A) → slice_get slots i ≡ Some s → (e : Step) → Stepped i s e
  step_down i s g (named name) = by (find s.places name) refl
    where
      by : (r : Option ℕ) → find s.places name ≡ r → Stepped i s (named name)
      by None f = inl (is.missing i s g name f)
      by (Some j) f = let (w, at) = is.found i s g name j f in inr (j, w, at, f)
  step_down i s g (placed k) = by (slice_get s.elements.items k) refl
    where
      by : (r : Option ℕ) → slice_get s.elements.items k ≡ r → Stepped i s (placed k)
      by None f = inl (is.beyond i s g k (past_end s.elements.items k f))
      by (Some j) f = let (w, at) = is.elements i s g k j f in inr (j, w, at, f)

  pub reach : (p : Path)
      → (tree p ≡ nothing) ⊎ ((j : ℕ) × (j < length slots) × (path j ≡ p))
  reach [] = inr (0, some, is.top)
  reach (e ∷ p) = elim (reach p) [
    | inl none ↦ inl (is.below p e none)
    | inr (i, w, at) ↦
        let (s, g) = some_there slots i w in
        elim (step_down i s g e) [
          | inl none ↦ inl (ap (λ q. tree (e ∷ q)) (sym at) ∙ none)
          | inr (j, v, f, b) ↦ inr (j, v, f ∙ ap (λ q. e ∷ q) at)
        ]
  ]
