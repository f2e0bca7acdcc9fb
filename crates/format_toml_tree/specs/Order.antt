-- The order of the entries of a table: that in which the lines first name them.
use Rattle.std.specs.Prelude.{◌≡◌, ℕ, ◌<◌, List, [], ◌∷◌, ◌++◌, Some, Ok, length}
use Rattle.std.specs.Prelude.{slice_get}
use Rattle.format_toml_tree.specs.Access.{entry_names}
use Rattle.format_toml_tree.specs.Holds.{Holds}
use Rattle.format_toml_tree.specs.Nodes.{IsAt}
use Rattle.format_toml_tree.specs.Paths.{Path, named}
use Rattle.format_toml_tree.specs.Rules.{nothing}
use Rattle.format_toml_tree.specs.Runs.{Gives, Tree, empty}
use Rattle.format_toml_tree.specs.declared.node.Node.{Node}
use Rattle.format_toml_tree.specs.declared.tree.Slot.{Slot}
use Rattle.format_toml_tree.specs.declared.value.Item.{Item}

module _ {A : Type 0} where
  -- Some first lines give a tree with something at the path `q`, and nothing at `r`.
  pub record ComesBefore (level : ℕ) (lines : List (Item A)) (q r : Path) : Type 0 where
    pub front : List (Item A)
    pub rest : List (Item A)
    pub are : lines ≡ front ++ rest
    pub tree : Tree A
    pub gives : Gives level (empty, []) 0 front (Ok tree)
    pub there : tree q ≡ nothing → ⊥
    pub later : tree r ≡ nothing

  -- An entry that earlier lines name has a lower index than one that only later lines name.
  abbrev pub AreInOrder : ℕ → List (Item A) → List (Slot A) → Tree A → (ℕ → Path) → Type 0
  AreInOrder level lines slots tree path = (node : Node A) (p : Path) (k m : ℕ) (x y : List ℕ)
      → node.tree.now.slots.items ≡ slots → IsAt node tree path p
      → slice_get (entry_names node) k ≡ Some x → slice_get (entry_names node) m ≡ Some y
      → ComesBefore level lines (named x ∷ p) (named y ∷ p) → k < m

  -- The slots hold the tree that the lines give, with entries in order.
  abbrev pub HoldsInOrder : ℕ → List (Item A) → List (Slot A) → Type 0
  HoldsInOrder level lines slots = (given : Tree A) × (path : ℕ → Path)
      × Gives level (empty, []) 0 lines (Ok given) × Holds slots given path × (0 < length slots)
      × AreInOrder level lines slots given path
