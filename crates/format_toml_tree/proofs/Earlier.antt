-- The slots of the tree of the first lines are the first slots.
use Rattle.std.specs.Prelude.{◌≡◌, ℕ, ◌<◌, ◌≤◌, List, [], ◌∷◌, ◌++◌, Ok, length}
use Rattle.std.specs.Prelude.{slice_get}
use Rattle.std.proofs.Common.{sym, ap, subst, inl, inr, ◌∙◌, arith}
use Rattle.std.proofs.lemmas.Bool.{cases_lt}
use Rattle.format_toml_tree.proofs.Reached.{reach}
use Rattle.format_toml_tree.specs.Access.{entry_of}
use Rattle.format_toml_tree.specs.Added.{get_once, some_there}
use Rattle.format_toml_tree.specs.Holds.{Goes, Holds}
use Rattle.format_toml_tree.specs.Order.{AreInOrder, ComesBefore}
use Rattle.format_toml_tree.specs.Paths.{Path, named}
use Rattle.format_toml_tree.specs.Places.{some_node}
use Rattle.format_toml_tree.specs.Rules.{nothing}
use Rattle.format_toml_tree.specs.Runs.{Gives, State, Tree, empty}
use Rattle.format_toml_tree.specs.declared.tree.Slot.{Slot}
use Rattle.format_toml_tree.specs.declared.value.Item.{Item}

module _ {A : Type 0} where
  -- a tree has something at the paths of the first slots, and nowhere else
  pub record IsEarlier (path : ℕ → Path) (count : ℕ) (tree : Tree A) : Type 0 where
    pub most : ℕ
    pub within : most ≤ count
    pub all : (q : Path) → (tree q ≡ nothing → ⊥) → (j : ℕ) × (j < most) × (path j ≡ q)
    pub there : (j : ℕ) → j < most → tree (path j) ≡ nothing → ⊥

  -- some first lines, at least the first `k`
  pub record IsFront (front lines : List (Item A)) (k : ℕ) : Type 0 where
    pub rest : List (Item A)
    pub are : lines ≡ front ++ rest
    pub least : k ≤ length front

  pub earlier_now : {slots : List (Slot A)} {tree : Tree A} {path : ℕ → Path}
      → Holds slots tree path → 0 < length slots → IsEarlier path (length slots) tree
  earlier_now {slots = slots} {tree = tree} {path = path} holds some = record {
    most = length slots;
    within = omega arith;
    all = λ q there. elim (reach holds some q) [
      | inl none ↦ absurd (there none)
      | inr found ↦ found
    ];
    there = λ j less none.
        let (s, g) = some_there slots j less in
        some_node s.kind (length s.elements.items) (sym (holds.there j s g) ∙ none);
  }

  pub earlier_still : {old new : List (Slot A)} {path : ℕ → Path} {s : State A} {j : ℕ}
      {tree : Tree A} (goes : Goes old path s j new) → IsEarlier path (length old) tree
      → IsEarlier goes.paths (length new) tree
  earlier_still {old} {new} {path} {s} {j} {tree} goes is = record {
    most = is.most;
    within = omega (arith, is.within, goes.grown);
    all = λ q there.
        let (i, less, at) = is.all q there in
        (i, less, goes.kept i (omega (arith, less, is.within)) ∙ at);
    there = λ i less none. is.there i less
        (ap tree (sym (goes.kept i (omega (arith, less, is.within)))) ∙ none);
  }

  module _ (level : ℕ) (lines : List (Item A)) {slots : List (Slot A)} {tree : Tree A}
      {path : ℕ → Path} (holds : Holds slots tree path)
      (earlier : (front : List (Item A)) (t : Tree A) → IsFront front lines 0
      → Gives level (empty, []) 0 front (Ok t) → IsEarlier path (length slots) t) where
    before : (a b : ℕ) → a < length slots → b < length slots
        → ComesBefore level lines (path a) (path b) → a < b
    before a b v w comes =
        let is = earlier comes.front comes.tree (record {
          rest = comes.rest;
          are = comes.are;
          least = omega arith;
        }) comes.gives in
        let (j, less, at) = is.all (path a) comes.there in
        let same = holds.apart j a (omega (arith, less, is.within)) v at in
        elim (cases_lt b is.most) [
          | inl first ↦ absurd (is.there b first comes.later)
          | inr past ↦ omega (arith, less, same, past)
        ]

    pub in_order : AreInOrder level lines slots tree path
    in_order node p k m x y same is e f comes =
        let (s, g) = some_there node.tree.now.slots.items node.place is.within in
        let (a, at_k, here) = entry_of node s g is k x e in
        let (b, at_m, there) = entry_of node s g is m y f in
        let less = before a b (subst (λ l. a < length l) same here.within)
        (subst (λ l. b < length l) same there.within)
        (subst (λ q. ComesBefore level lines q (path b)) (sym here.at)
        (subst (λ q. ComesBefore level lines (named x ∷ p) q) (sym there.at) comes)) in
        elim (cases_lt k m) [
          | inl first ↦ first
          | inr most ↦ elim (cases_lt m k) [
            | inl later ↦
                let rises = (is.holds.lists node.place s g).in_order m k b a later at_m at_k in
                absurd (omega (arith, rises, less))
            | inr least ↦
                let one : k ≡ m = omega (arith, most, least) in
                absurd (apart a b (get_once (slice_get s.entries.items m)
                (ap (λ n. slice_get s.entries.items n) (sym one) ∙ at_k) at_m) less)
          ]
        ]
      where
        apart : (a b : ℕ) → a ≡ b → a < b → ⊥
        apart a b e less = omega (arith, e, less)
