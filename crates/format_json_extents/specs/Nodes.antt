-- The nodes of a JSON text, by the grammar of values.
use Rattle.std.specs.Prelude.{◌++◌, ◌+◌, ◌∷◌, ◌≡◌, ◌⊎◌, [], ℕ, Bool, List, drop, false, length, suc}
use Rattle.std.specs.Prelude.{take, true, zero}
use Rattle.format_json_extents.specs.Number.{IsNumber}
use Rattle.format_json_extents.specs.Strings.{IsString}
use Rattle.format_json_extents.specs.Value.{Exactly, IsWhitespace, closing_bracket, opening_bracket}
use Rattle.format_json_extents.specs.declared.node.JsonNode.{JsonNode}

-- the node of `text` at the offset `from` of the whole text. The node of index `next` follows it
-- and everything in it.
abbrev pub node : ℕ → ℕ → List ℕ → ℕ → JsonNode
node kind from text next =
    record { kind = kind; start = from; end = from + length text; next = next }

-- the kind of an object (`true`) or an array (`false`)
abbrev pub nested_kind : Bool → ℕ
nested_kind true = 6
nested_kind false = 5

-- A value without nested values, of this kind.
abbrev pub IsScalarOf : ℕ → List ℕ → Type 0
IsScalarOf kind text =
    ((kind ≡ 0) × Exactly (110 ∷ 117 ∷ 108 ∷ 108 ∷ []) text)
    ⊎ (((kind ≡ 1) × Exactly (102 ∷ 97 ∷ 108 ∷ 115 ∷ 101 ∷ []) text)
    ⊎ (((kind ≡ 2) × Exactly (116 ∷ 114 ∷ 117 ∷ 101 ∷ []) text)
    ⊎ (((kind ≡ 3) × IsNumber text) ⊎ ((kind ≡ 4) × IsString text))))

-- `NodesAt`: the nodes of a text that is at the offset `from` of the whole text. The first of them
-- has the index `index`.
abbrev pub NodesAt : Type 1
NodesAt = (from index : ℕ) → List JsonNode → List ℕ → Type 0

-- Such a value: its one node.
pub record ScalarNodes (from index : ℕ) (nodes : List JsonNode) (text : List ℕ) : Type 0 where
  pub kind : ℕ
  pub is_scalar : IsScalarOf kind text
  pub alone : nodes ≡ node kind from text (index + 1) ∷ []

-- A value with whitespace around it: the nodes of the value.
pub record ElementNodes (V : NodesAt) (from index : ℕ) (nodes : List JsonNode) (text : List ℕ)
    : Type 0 where
  pub before : List ℕ
  pub value : List ℕ
  pub after : List ℕ
  pub is_before : IsWhitespace before
  pub is_value : V (from + length before) index nodes value
  pub is_after : IsWhitespace after
  pub joins : text ≡ before ++ (value ++ after)

-- A name with whitespace around it, a colon and a value: the node of the name, and the nodes of
-- the value.
pub record MemberNodes (V : NodesAt) (from index : ℕ) (nodes : List JsonNode) (text : List ℕ)
    : Type 0 where
  pub before : List ℕ
  pub name : List ℕ
  pub after : List ℕ
  pub element : List ℕ
  pub others : List JsonNode
  pub is_before : IsWhitespace before
  pub is_name : IsString name
  pub is_after : IsWhitespace after
  pub is_element : ElementNodes V (from + length (before ++ (name ++ after)) + 1) (index + 1)
      others element
  pub joins : text ≡ (before ++ (name ++ after)) ++ 58 ∷ element
  pub in_order : nodes ≡ node 7 (from + length before) name (index + 1) ∷ others

-- A member of an object (`true`), or an element of an array (`false`).
abbrev pub ItemNodes : Bool → NodesAt → NodesAt
ItemNodes true V = MemberNodes V
ItemNodes false V = ElementNodes V

-- One or more texts separated by commas: the nodes of each in sequence.
pub data ListNodes (P : NodesAt) : ℕ → ℕ → List JsonNode → List ℕ → Type 0 where
  nodes_last : (from index : ℕ) (nodes : List JsonNode) (text : List ℕ) → P from index nodes text
      → ListNodes P from index nodes text
  nodes_before : (from index : ℕ) (one others nodes : List JsonNode) (first more text : List ℕ)
      → P from index one first
      → ListNodes P (from + length first + 1) (index + length one) others more
      → text ≡ first ++ 44 ∷ more → nodes ≡ one ++ others → ListNodes P from index nodes text

-- An array of values or an object of them: its node, and the nodes of its items.
pub record NestedNodes (keyed : Bool) (V : NodesAt) (from index : ℕ) (nodes : List JsonNode)
    (text : List ℕ) : Type 0 where
  pub inner : List JsonNode
  pub inside : List ℕ
  pub is_inside : (IsWhitespace inside × (inner ≡ []))
      ⊎ ListNodes (ItemNodes keyed V) (from + 1) (index + 1) inner inside
  pub joins : text ≡ opening_bracket keyed ∷ (inside ++ closing_bracket keyed ∷ [])
  pub in_order : nodes ≡ node (nested_kind keyed) from text (index + 1 + length inner) ∷ inner

-- A value whose arrays and objects are nested at most `level` deep.
abbrev pub ValueNodes : ℕ → NodesAt
ValueNodes zero from index nodes text = ScalarNodes from index nodes text
ValueNodes (suc level) from index nodes text = ScalarNodes from index nodes text
    ⊎ (NestedNodes false (ValueNodes level) from index nodes text
    ⊎ NestedNodes true (ValueNodes level) from index nodes text)

-- `NodesOfText level nodes text`: `nodes` are the nodes of the JSON text `text`.
abbrev pub NodesOfText : ℕ → List JsonNode → List ℕ → Type 0
NodesOfText level = ElementNodes (ValueNodes level) 0 0

-- `HasNodes level text count old new`: the JSON text `text` has `count` nodes. The buffer `new` is
-- `old` with the nodes from its start on, as many as fit.
pub record HasNodes (level : ℕ) (text : List ℕ) (count : ℕ) (old new : List JsonNode) : Type 0
  where
    pub nodes : List JsonNode
    pub are_nodes : NodesOfText level nodes text
    pub counts : count ≡ length nodes
    pub written : new ≡ take (length old) nodes ++ drop count old
