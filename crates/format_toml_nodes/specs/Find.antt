-- The node of a name in a table.
use Rattle.std.specs.Prelude.{◌≡◌, ℕ, ◌-◌, ◌<◌, ◌≤◌, List, ◌∷◌, [], length, take, drop}
use Rattle.std.specs.Prelude.{slice_get, Option, Some, None}
use Rattle.format_toml_nodes.specs.Nodes.{AreNodesOf, IsIn, IsJoined}
use Rattle.format_toml_nodes.specs.declared.node.Span.{Span}
use Rattle.format_toml_nodes.specs.declared.node.TomlNode.{TomlNode}
use Rattle.format_toml_tree.specs.Paths.{Path, named}
use Rattle.format_toml_tree.specs.Runs.{Tree}

-- `HasAt text place bytes`: the span `place` is within `text`, and is that of `bytes`.
abbrev pub HasAt : List ℕ → Span → List ℕ → Type 0
HasAt text place bytes =
    (place.offset ≤ length text) × (place.length ≤ length text - place.offset)
    × (take place.length (drop place.offset text) ≡ bytes)

-- The nodes are at these paths, each gives its table or array and its name or index there, and all
-- are linked: what of `AreNodesOf` is not about values.
pub record AreAt (text : List ℕ) (nodes : List TomlNode) (path : ℕ → Path) : Type 0 where
  pub top : path 0 ≡ []
  pub is_in : (j : ℕ) (it : TomlNode) → slice_get nodes j ≡ Some it
      → IsIn text path (length nodes) (path j) it
  pub joined : (j : ℕ) (it : TomlNode) → slice_get nodes j ≡ Some it → IsJoined nodes j it
  pub apart : (i j : ℕ) → i < length nodes → j < length nodes → path i ≡ path j → i ≡ j

-- the paths of the nodes of a tree
pub are_at : {A : Type 0} {given : Tree A} {text : List ℕ} {nodes : List TomlNode}
    → (are : AreNodesOf given text nodes) → AreAt text nodes are.path
are_at are = record {
  top = are.top;
  is_in = are.is_in;
  joined = are.joined;
  apart = are.apart;
}

-- `IsFound nodes path p o`: `o` is the number of the node at the path `p`, or no node is there.
abbrev pub IsFound : List TomlNode → (ℕ → Path) → Path → Option ℕ → Type 0
IsFound nodes path p None = (j : ℕ) → j < length nodes → path j ≡ p → ⊥
IsFound nodes path p (Some at) = (at < length nodes) × (path at ≡ p)

-- The number of the entry of this name in the node of number `table`.
abbrev pub FindsEntry : List ℕ → List TomlNode → ℕ → List ℕ → Option ℕ → Type 0
FindsEntry text nodes table name result =
    (path : ℕ → Path) → AreAt text nodes path → table < length nodes
    → IsFound nodes path (named name ∷ path table) result
