-- The results of nodes for the tree that slots hold.
use Rattle.std.specs.Prelude.{◌≡◌, ℕ, ◌<◌, List, [], ◌∷◌, length, slice_get, Option, Some, None}
use Rattle.std.specs.Prelude.{string_bytes}
use Rattle.std.specs.declared.string.String.{String}
use Rattle.std.specs.Borrow.{Bor}
use Rattle.format_toml_tree.specs.Paths.{Path, named}
use Rattle.format_toml_tree.specs.Rules.{nothing, valued}
use Rattle.format_toml_tree.specs.Runs.{Tree}
use Rattle.std.proofs.Common.{sym, ap, ◌∙◌}
use Rattle.format_toml_tree.specs.Holds.{Holds, find, node_of}
use Rattle.format_toml_tree.specs.Added.{some_there}
use Rattle.format_toml_tree.specs.Parts.{kind_of}
use Rattle.format_toml_tree.specs.Places.{some_node}
use Rattle.format_toml_tree.specs.declared.tree.Kind.TheVariants as kinds
use Rattle.format_toml_tree.specs.declared.tree.Slot.{Slot}
use Rattle.format_toml_tree.specs.declared.node.Node.{Node}
use Rattle.format_toml_tree.specs.declared.value.Value.{Value}
use Rattle.format_toml_tree.specs.declared.value.Value.TheVariants as values

module _ {A : Type 0} where
  -- A node is of a tree that is given, at a path of it.
  pub record IsAt (node : Node A) (tree : Tree A) (path : ℕ → Path) (p : Path) : Type 0 where
    pub holds : Holds node.tree.now.slots.items tree path
    pub within : node.place < length node.tree.now.slots.items
    pub at : path node.place ≡ p

  -- A node is at the top of each tree that places hold.
  abbrev pub IsTop : Node A → List (Slot A) → Type 0
  IsTop node slots = (tree : Tree A) (path : ℕ → Path) → Holds slots tree path → 0 < length slots
      → IsAt node tree path []

  -- The node at a name below is found, or there is nothing there.
  abbrev pub Finds : Node A → List ℕ → Option (Node A) → Type 0
  Finds node name None =
      (tree : Tree A) (path : ℕ → Path) (p : Path) → IsAt node tree path p
      → tree (named name ∷ p) ≡ nothing
  Finds node name (Some found) =
      (tree : Tree A) (path : ℕ → Path) (p : Path) → IsAt node tree path p
      → IsAt found tree path (named name ∷ p) × (tree (named name ∷ p) ≡ nothing → ⊥)

  -- The result is the value of the node, if it has one.
  abbrev pub Answers : Node A → Option (Bor (Value A)) → Type 0
  Answers node None =
      (tree : Tree A) (path : ℕ → Path) (p : Path) → IsAt node tree path p
      → (value : Value A) → tree p ≡ valued value → ⊥
  Answers node (Some value) =
      (tree : Tree A) (path : ℕ → Path) (p : Path) → IsAt node tree path p
      → tree p ≡ valued value.now

  -- ---- what a node finds

  module _ (node : Node A) (slot : Slot A)
      (there : slice_get node.tree.now.slots.items node.place ≡ Some slot) where
    pub finds_below : (name : List ℕ) (j : ℕ) → find slot.places name ≡ Some j
        → Finds node name (Some (record { tree = node.tree; place = j }))
    finds_below name j found tree path p is =
        let (within, at) = is.holds.found node.place slot there name j found in
        let (below, g) = some_there node.tree.now.slots.items j within in
        let here : path j ≡ named name ∷ p = at ∙ ap (λ r. named name ∷ r) is.at in (
          record { holds = is.holds; within = within; at = here },
          λ none. some_node below.kind (length below.elements.items)
              (sym (is.holds.there j below g) ∙ ap tree here ∙ none),
        )

    pub finds_none : (name : List ℕ) → find slot.places name ≡ None → Finds node name None
    finds_none name missing tree path p is =
        ap (λ r. tree (named name ∷ r)) (sym is.at)
        ∙ is.holds.missing node.place slot there name missing

    pub answers_value : (value : Bor (Value A)) → slot.kind ≡ kinds.Value value
        → Answers node (Some value)
    answers_value value kind tree path p is =
        ap tree (sym is.at) ∙ is.holds.there node.place slot there
        ∙ ap (λ k. node_of k (length slot.elements.items)) kind

    pub answers_none : ((value : Bor (Value A)) → slot.kind ≡ kinds.Value value → ⊥)
        → Answers node None
    answers_none other tree path p is value e =
        let (held, kind) = kind_of slot.kind (length slot.elements.items) value
        (sym (is.holds.there node.place slot there) ∙ ap tree is.at ∙ e) in
        other held kind

  -- The result is the contents of the node's value, if that is of this kind.
  abbrev pub AnswersAs : {X : Type 0} → (X → Value A) → Node A → Option X → Type 0
  AnswersAs {X} make node None =
      (tree : Tree A) (path : ℕ → Path) (p : Path) → IsAt node tree path p
      → (x : X) → tree p ≡ valued (make x) → ⊥
  AnswersAs {X} make node (Some x) =
      (tree : Tree A) (path : ℕ → Path) (p : Path) → IsAt node tree path p
      → tree p ≡ valued (make x)

  valued_same : {v w : Value A} → valued v ≡ valued w → v ≡ w
  valued_same e = cc

  module _ {X : Type 0} (make : X → Value A) (node : Node A) where
    pub as_none : Answers node None → AnswersAs make node None
    as_none told tree path p is x e = told tree path p is (make x) e

    pub as_some : (value : Bor (Value A)) → Answers node (Some value) → (x : X)
        → value.now ≡ make x → AnswersAs make node (Some x)
    as_some value told x e tree path p is = told tree path p is ∙ ap (λ v. valued v) e

    pub as_other : (value : Bor (Value A)) → Answers node (Some value)
        → ((x : X) → value.now ≡ make x → ⊥) → AnswersAs make node None
    as_other value told other tree path p is x e =
        other x (valued_same (sym (told tree path p is) ∙ e))

  -- The result is the text of the node, if it has one.
  abbrev pub AnswersText : Node A → Option (Bor (List ℕ)) → Type 0
  AnswersText node None = AnswersAs (λ t. values.Text t) node None
  AnswersText node (Some s) = (text : String A) × (s.now ≡ string_bytes text)
      × AnswersAs (λ t. values.Text t) node (Some text)
