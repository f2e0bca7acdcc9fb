-- The elements of a slot, in sequence, and everything below slots.
use Rattle.std.specs.Prelude.{◌≡◌, ◌⊎◌, ℕ, zero, suc, ◌+◌, ◌<◌, ◌≤◌}
use Rattle.std.specs.Prelude.{List, ◌∷◌, Some, length, slice_get, take, true}
use Rattle.std.proofs.Common.{refl, sym, ap, subst, inl, inr, ◌∙◌, arith}
use Rattle.std.proofs.lemmas.Option.{same_Some}
use Rattle.format_toml_nodes.specs.Laying.{Below, ChangesAt, InParent, IsPlacedAs, alone}
use Rattle.format_toml_nodes.specs.Laying.{PutsElements, PutsEntries}
use Rattle.format_toml_nodes.specs.Nodes.{IsIn, of_kind}
use Rattle.format_toml_nodes.specs.declared.node.TomlNode.{TomlNode}
use Rattle.format_toml_nodes.proofs.Changes.{changed_here, changed_others}
use Rattle.format_toml_nodes.proofs.Texts.{stands_none}
use Rattle.format_toml_tree.specs.Added.{some_there}
use Rattle.format_toml_tree.specs.Holds.{Holds}
use Rattle.format_toml_tree.specs.Paths.{Path, placed}
use Rattle.format_toml_tree.specs.Runs.{Tree}
use Rattle.format_toml_tree.specs.declared.tree.Slot.{Slot}

-- the position of an element
abbrev pub element_at : ℕ → ℕ → TomlNode
element_at parent index =
    record (alone (of_kind 0)) { parent = parent; index = index; is_element = true }

-- the number is this one, or below it
pub last : (k n : ℕ) → k < n + 1 → (k ≡ n) ⊎ (k < n)
last zero zero w = inl refl
last zero (suc n) w = inr (omega arith)
last (suc k) zero w = absurd (omega (arith, w))
last (suc k) (suc n) w = elim (last k n (omega (arith, w))) [
  | inl e ↦ inl (ap (λ i. suc i) e)
  | inr l ↦ inr (omega (arith, l))
]

module _ {A : Type 0} (slots : List (Slot A)) (parent : ℕ) (before : List TomlNode) where
  -- the nodes of the elements before this one have their position
  abbrev pub NumbersSo : ℕ → List TomlNode → Type 0
  NumbersSo index nodes = (tree : Tree A) (path : ℕ → Path) → Holds slots tree path
      → (text : List ℕ) → (s : Slot A) → slice_get slots parent ≡ Some s
      → ((j : ℕ) → InParent text path (length slots) before j
      → InParent text path (length slots) nodes j)
      × ((k j : ℕ) → k < index → slice_get s.elements.items k ≡ Some j
      → InParent text path (length slots) nodes j)

  pub number_more : (within : parent < length slots) (s : Slot A)
      → slice_get slots parent ≡ Some s → (index j : ℕ)
      → slice_get s.elements.items index ≡ Some j → (nodes after : List TomlNode)
      → ChangesAt (IsPlacedAs (element_at parent index)) j nodes after → NumbersSo index nodes
      → NumbersSo (index + 1) after
  number_more within s at index j e nodes after changes was tree path holds text t g =
      let (stay, numbers) = was tree path holds text t g in
      let count = length slots in
      let here = (holds.elements parent s at index j e).1 in
      let so = IsPlacedAs (element_at parent index) in
      let leads : (was it : TomlNode) → so was it → IsIn text path count (path j) it =
      λ was it is. subst (λ p. IsIn text path count p it) (sym here)
      (subst (λ n. IsIn text path count (placed index ∷ path parent) n) (sym is)
      (within, refl, stands_none text, refl, refl)) in
      let others : (i : ℕ) → InParent text path count nodes i → InParent text path count after i =
      changed_others text text path count j so nodes after changes leads (λ p it is. is) in
      let same : s ≡ t = same_Some s t (sym at ∙ g) in (
        λ i leads. others i (stay i leads),
        λ k i w f. elim (last k index w) [
          | inl is ↦
              let is_j : j ≡ i =
              same_Some j i (sym e ∙ ap (λ u. slice_get u.elements.items index) same
              ∙ ap (λ n. slice_get t.elements.items n) (sym is) ∙ f) in
              subst (λ n. InParent text path count after n) is_j
              (changed_here text text path count j so nodes after changes leads (λ p it is. is))
          | inr less ↦ others i (numbers k i less f)
        ],
      )

module _ {A : Type 0} (slots : List (Slot A)) (at : ℕ) (old : List ℕ) (before : List TomlNode)
  where
    -- the nodes below the slots before this one have their position
    abbrev pub LeadsSo : ℕ → ℕ → List ℕ → List TomlNode → Type 0
    LeadsSo place end buffer nodes = (tree : Tree A) (path : ℕ → Path) → Holds slots tree path
        → end ≤ length buffer → ((j : ℕ) → InParent (take at old) path (length slots) before j
        → InParent (take end buffer) path (length slots) nodes j)
        × ((i : ℕ) (s : Slot A) → i < place → slice_get slots i ≡ Some s
        → Below s (InParent (take end buffer) path (length slots) nodes))

    pub leads_more : (parent end : ℕ) (buffer : List ℕ) (nodes : List TomlNode) (next : ℕ)
        (new : List ℕ) (mid after : List TomlNode) → parent < length slots
        → PutsEntries slots parent end buffer nodes next new mid
        → PutsElements slots parent mid after → LeadsSo parent end buffer nodes
        → LeadsSo (parent + 1) next new after
    leads_more parent end buffer nodes next new mid after within entries elements so tree path holds
        fits =
        let room : next ≤ length buffer = omega (arith, entries.grows.same, fits) in
        let (t, there) = some_there slots parent within in
        let (stay, names) = entries.names tree path holds room t there in
        let (keep, numbers) = elements.numbers tree path holds (take next new) t there in
        let (old_stay, below) = so tree path holds (omega (arith, entries.grows.up, room)) in
        let count = length slots in
        let kept : (j : ℕ) → InParent (take end buffer) path count nodes j
        → InParent (take next new) path count after j = λ j leads. keep j (stay j leads) in (
          λ j leads. kept j (old_stay j leads),
          λ i s w g. elim (last i parent w) [
            | inl is ↦
                let same : t ≡ s =
                same_Some t s (sym there ∙ ap (λ n. slice_get slots n) (sym is) ∙ g) in
                subst (λ u. Below u (InParent (take next new) path count after)) same
                ((λ name j f. keep j (names name j f)), numbers)
            | inr less ↦
                let (a, b) = below i s less g in
                ((λ name j f. kept j (a name j f)), (λ k j f. kept j (b k j f)))
          ],
        )
