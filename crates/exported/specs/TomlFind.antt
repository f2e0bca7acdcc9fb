-- The node of a path of names.
use Rattle.std.specs.Prelude.{◌≡◌, ℕ, ◌<◌, List, [], ◌∷◌, length, Option}
use Rattle.std.specs.Borrow.{Bor}
use Rattle.std.specs.declared.alloc.Global.{Global}
use Rattle.format_toml_nodes.specs.Find.{AreAt, IsFound}
use Rattle.format_toml_nodes.specs.Nodes.{AreNodesOf}
use Rattle.format_toml_nodes.specs.declared.node.TomlNode.{TomlNode}
use Rattle.format_toml_tree.specs.Paths.{Path, named}
use Rattle.format_toml_tree.specs.Rules.{nothing}
use Rattle.format_toml_tree.specs.Runs.{Tree as Given}

-- the path along names
abbrev pub along : Path → List (Bor (List ℕ)) → Path
along p [] = p
along p (name ∷ names) = along (named name.now ∷ p) names

-- `FindsAlong text nodes table names o`: `o` is the number of the node along the names, or no node
-- is there.
abbrev pub FindsAlong : List ℕ → List TomlNode → ℕ → List (Bor (List ℕ)) → Option ℕ → Type 0
FindsAlong text nodes table names o = (path : ℕ → Path) → AreAt text nodes path
    → table < length nodes → IsFound nodes path (along (path table) names) o

-- If the nodes are those of a document, number `at` is that of the path along the names.
abbrev pub StandsAlong : List ℕ → List TomlNode → ℕ → List (Bor (List ℕ)) → ℕ → Type 0
StandsAlong text nodes table names at = (given : Given Global) (are : AreNodesOf given text nodes)
    → are.path at ≡ along (are.path table) names

-- If the nodes are those of a document, it has nothing at the path along the names.
abbrev pub HasNoneAt : List ℕ → List TomlNode → ℕ → List (Bor (List ℕ)) → Type 0
HasNoneAt text nodes table names = (given : Given Global) (are : AreNodesOf given text nodes)
    → table < length nodes → given (along (are.path table) names) ≡ nothing
