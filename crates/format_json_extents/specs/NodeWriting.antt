-- How nodes are written into a buffer, in the course of a text.
use Rattle.std.specs.Prelude.{◌++◌, ◌+◌, ◌-◌, ◌∷◌, ◌≡◌, ◌≤◌, ◌⊎◌, [], ℕ, Bool, List, false}
use Rattle.std.specs.Prelude.{length, set, suc, true, zero}
use Rattle.format_json_extents.specs.Strings.{IsString}
use Rattle.format_json_extents.specs.Value.{IsWhitespace, closing_bracket}
use Rattle.format_json_extents.specs.Nodes.{ItemNodes, ListNodes, NodesAt, node}
use Rattle.format_json_extents.specs.declared.node.JsonNode.{JsonNode}

-- `overlay index nodes old`: `old` with `nodes` written from the index on, as far as they fit.
abbrev pub overlay : ℕ → List JsonNode → List JsonNode → List JsonNode
overlay index nodes [] = []
overlay (suc index) nodes (x ∷ old) = x ∷ overlay index nodes old
overlay zero [] (x ∷ old) = x ∷ old
overlay zero (n ∷ nodes) (x ∷ old) = n ∷ overlay zero nodes old

-- the offset of the end `bytes` of a text of `size` bytes
abbrev pub offset_of_rest : ℕ → List ℕ → ℕ
offset_of_rest size bytes = size - length bytes

-- `WritesNodes P size index bytes rest next old new`: `bytes` is the end of a text of `size` bytes.
-- It starts with a text that has nodes by `P`, followed by `rest`. The nodes are written from the
-- index on, and the index after them is `next`.
pub record WritesNodes (P : NodesAt) (size index : ℕ) (bytes rest : List ℕ) (next : ℕ)
    (old new : List JsonNode) : Type 0 where
  pub nodes : List JsonNode
  pub text : List ℕ
  pub are_nodes : P (offset_of_rest size bytes) index nodes text
  pub splits : bytes ≡ text ++ rest
  pub counts : next ≡ index + length nodes
  pub few : length nodes ≤ length text
  pub written : new ≡ overlay index nodes old

-- The items of an array or an object, and the closing bracket.
pub record ItemsNodes (keyed : Bool) (V : NodesAt) (from index : ℕ) (nodes : List JsonNode)
    (text : List ℕ) : Type 0 where
  pub inside : List ℕ
  pub are_items : ListNodes (ItemNodes keyed V) from index nodes inside
  pub joins : text ≡ inside ++ closing_bracket keyed ∷ []

-- The bytes after the opening bracket.
pub record TailNodes (keyed : Bool) (V : NodesAt) (from index : ℕ) (nodes : List JsonNode)
    (text : List ℕ) : Type 0 where
  pub inside : List ℕ
  pub is_inside : (IsWhitespace inside × (nodes ≡ []))
      ⊎ ListNodes (ItemNodes keyed V) from index nodes inside
  pub joins : text ≡ inside ++ closing_bracket keyed ∷ []

-- A name and its colon: the node of the name.
pub record WritesName (size index : ℕ) (bytes rest : List ℕ) (next : ℕ)
    (old new : List JsonNode) : Type 0 where
  pub before : List ℕ
  pub name : List ℕ
  pub after : List ℕ
  pub is_before : IsWhitespace before
  pub is_name : IsString name
  pub is_after : IsWhitespace after
  pub splits : bytes ≡ (before ++ (name ++ after)) ++ 58 ∷ rest
  pub counts : next ≡ index + 1
  pub written : new ≡ set old index
      (node 7 (offset_of_rest size bytes + length before) name (index + 1))

-- The same of an object (`true`); nothing of an array (`false`).
abbrev pub WritesKey : Bool → ℕ → ℕ → List ℕ → List ℕ → ℕ → (old new : List JsonNode) → Type 0
WritesKey true size index bytes rest next old new =
    WritesName size index bytes rest next old new
WritesKey false size index bytes rest next old new =
    (rest ≡ bytes) × (next ≡ index) × (new ≡ old)

-- `WritesItems keyed V size index bytes rest count old now`: `rest` is what remains of `bytes`
-- after items that a comma follows. Their nodes are written, and the next node has the index
-- `count`. Further items make one list with them.
pub record WritesItems (keyed : Bool) (V : NodesAt) (size index : ℕ) (bytes rest : List ℕ)
    (count : ℕ) (old now : List JsonNode) : Type 0 where
  pub nodes : List JsonNode
  pub text : List ℕ
  pub splits : bytes ≡ text ++ rest
  pub counts : count ≡ index + length nodes
  pub few : length nodes ≤ length text
  pub written : now ≡ overlay index nodes old
  pub leads : (others : List JsonNode) (more : List ℕ)
      → ListNodes (ItemNodes keyed V) (offset_of_rest size rest) count others more
      → ListNodes (ItemNodes keyed V) (offset_of_rest size bytes) index (nodes ++ others)
      (text ++ more)
