-- The results of nodes for their kind: a table, or an array.
use Rattle.std.specs.Prelude.{◌≡◌, ◌↔◌, ◌≤◌, ℕ, Bool, true, false, IsTrue, length, None, Option}
use Rattle.std.specs.Prelude.{Some, slice_get}
use Rattle.std.specs.Borrow.{Bor}
use Rattle.std.specs.declared.vec.Vec.{Vec}
use Rattle.std.proofs.Common.{sym, ap, subst, ◌∙◌, refl}
use Rattle.format_toml_tree.specs.Holds.{node_at, node_of}
use Rattle.format_toml_tree.specs.Nodes.{IsAt}
use Rattle.format_toml_tree.specs.Paths.{Path}
use Rattle.format_toml_tree.specs.Rules.{IsArray, IsTable, Node as Given}
use Rattle.format_toml_tree.specs.Runs.{Tree}
use Rattle.format_toml_tree.specs.declared.node.Node.{Node}
use Rattle.format_toml_tree.specs.declared.tree.Kind.{Kind}
use Rattle.format_toml_tree.specs.declared.tree.Kind.TheVariants as kinds
use Rattle.format_toml_tree.specs.declared.tree.Slot.{Slot}
use Rattle.format_toml_tree.specs.declared.value.Key.{Key}
use Rattle.format_toml_tree.specs.declared.value.Value.{Value}
use Rattle.format_toml_tree.specs.declared.value.Value.TheVariants as values

module _ {A : Type 0} where
  -- `KindResult so node b`: `b` is true if and only if `so` holds for the contents of `node`.
  abbrev pub KindResult : (Given A → Type 0) → Node A → Bool → Type 0
  KindResult so node b =
      (tree : Tree A) (path : ℕ → Path) (p : Path) → IsAt node tree path p
      → IsTrue b ↔ so (tree p)

  -- The result is the node itself if `so` holds for its contents, and otherwise `None`.
  abbrev pub AnswersItself : (Given A → Type 0) → Node A → Option (Node A) → Type 0
  AnswersItself so node None =
      (tree : Tree A) (path : ℕ → Path) (p : Path) → IsAt node tree path p → so (tree p) → ⊥
  AnswersItself so node (Some same) =
      (same ≡ node) × ((tree : Tree A) (path : ℕ → Path) (p : Path) → IsAt node tree path p
      → so (tree p))

  -- The place of a node, if there is one.
  abbrev pub IsSlot : Node A → Option (Bor (Slot A)) → Type 0
  IsSlot node None = length node.tree.now.slots.items ≤ node.place
  IsSlot node (Some slot) = slice_get node.tree.now.slots.items node.place ≡ Some slot.now

  -- ---- results for a slot

  module _ (so : Given A → Type 0) (node : Node A) (b : Bool) where
    pub tells_at : (slot : Bor (Slot A)) → IsSlot node (Some slot)
        → (IsTrue b ↔ so (node_at slot.now)) → KindResult so node b
    tells_at slot there told tree path p is =
        subst (λ n. IsTrue b ↔ so n) (sym (is.holds.there node.place slot.now there)
        ∙ ap tree is.at) told

    true_false : true ≡ false → ⊥
    true_false e = cc

    pub itself_none : b ≡ false → KindResult so node b → AnswersItself so node None
    itself_none not told tree path p is x =
        true_false (sym ((told tree path p is).1 x) ∙ not)

    pub itself_some : b ≡ true → KindResult so node b → AnswersItself so node (Some node)
    itself_some so_is told = (refl, λ tree path p is. (told tree path p is).0 so_is)

  -- ---- values that are tables, and arrays

  module _ (kind : Kind A) (value : Bor (Value A)) (is : kind ≡ kinds.Value value) where
    pub table_shown : (entries : Vec (Key A × Value A) A) → value.now ≡ values.Table entries
        → (n : ℕ) → IsTrue true ↔ IsTable (node_of kind n)
    table_shown entries e n =
        let P : Kind A → Type 0 = λ k. IsTrue true ↔ IsTable (node_of k n) in
        subst P (sym is) ((λ t. (entries, e)), (λ x. refl))

    pub array_shown : (elements : Vec (Value A) A) → value.now ≡ values.Array elements
        → (n : ℕ) → IsTrue true ↔ IsArray (node_of kind n)
    array_shown elements e n =
        let P : Kind A → Type 0 = λ k. IsTrue true ↔ IsArray (node_of k n) in
        subst P (sym is) ((λ t. (elements, e)), (λ x. refl))
