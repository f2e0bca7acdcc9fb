-- Members and elements among the nodes of a JSON text.
use Rattle.std.specs.Prelude.{⊤, ◌≡◌, ◌≤◌, ◌<◌, ◌+◌, ◌⊎◌, ℕ, Bool, true, false, List, Some}
use Rattle.std.specs.Prelude.{drop, length}
use Rattle.std.specs.List.{slice_get}
use Rattle.format_json_extents.specs.Names.{IsCompared}
use Rattle.format_json_extents.specs.Strings.{IsString}
use Rattle.format_json_extents.specs.Texts.{NoMatchAtStart}
use Rattle.format_json_extents.specs.declared.node.JsonNode.{JsonNode}

-- `IsAt nodes index it`: the node of this index.
abbrev pub IsAt : List JsonNode → ℕ → JsonNode → Type 0
IsAt nodes index it = slice_get nodes index ≡ Some it

-- `HasInside kind nodes index end`: the node at `index` has this kind, and the nodes in it end
-- before the index `end`.
pub record HasInside (kind : ℕ) (nodes : List JsonNode) (index end : ℕ) : Type 0 where
  pub node : JsonNode
  pub is_at : IsAt nodes index node
  pub is_kind : node.kind ≡ kind
  pub is_end : end ≡ node.next
  pub within : end ≤ length nodes

-- `Leads Pass nodes end from at count`: from the index `from`, the indices after everything in
-- `count` consecutive nodes lead to `at`. `Pass` holds for these nodes.
pub data Leads (Pass : JsonNode → Type 0) (nodes : List JsonNode) (end from : ℕ) : ℕ → ℕ → Type 0
  where
    leads_nowhere : Leads Pass nodes end from from 0
    leads_on : (at count : ℕ) (node : JsonNode) → Leads Pass nodes end from at count → at < end
        → IsAt nodes at node → at < node.next → Pass node
        → Leads Pass nodes end from node.next (count + 1)

-- ---- names

-- `IsNamed same name text node`: the node is a string of `text`, and `same` is whether it denotes
-- `name`.
abbrev pub IsNamed : Bool → List ℕ → List ℕ → JsonNode → Type 0
IsNamed same name text node =
    (rest : List ℕ) × IsCompared same name (drop node.start text) rest

-- Whether a node is a name, and denotes this one.
abbrev pub IsNameOf : Bool → List ℕ → List ℕ → JsonNode → Type 0
IsNameOf true name text node = (node.kind ≡ 7) × IsNamed true name text node
IsNameOf false name text node = node.kind ≡ 7 → IsNamed false name text node

-- A name that is not a string of the text.
abbrev pub IsNoName : List ℕ → JsonNode → Type 0
IsNoName text node = (node.kind ≡ 7) × NoMatchAtStart IsString (drop node.start text)

-- ---- members

-- The nodes in the object at `index` that `at` and `count` passed are no such name.
pub record PassesOthers (name text : List ℕ) (nodes : List JsonNode) (index end at : ℕ) : Type 0
  where
    pub count : ℕ
    pub is_object : HasInside 6 nodes index end
    pub leads : Leads (IsNameOf false name text) nodes end (index + 1) at count

-- `FindsMember name text nodes index out`: `out` is the index after the first such name in the
-- object at `index`.
abbrev pub FindsMember : List ℕ → List ℕ → List JsonNode → ℕ → ℕ → Type 0
FindsMember name text nodes index out =
    (end at : ℕ) × (node : JsonNode) × PassesOthers name text nodes index end at × (at < end)
    × IsAt nodes at node × IsNameOf true name text node × (out ≡ node.next) × (out < end)

-- The object has no such name.
abbrev pub LacksMember : List ℕ → List ℕ → List JsonNode → ℕ → Type 0
LacksMember name text nodes index =
    (end at : ℕ) × PassesOthers name text nodes index end at × (end ≤ at)

-- There is no object, or the nodes in it are not those of a text.
abbrev pub BreaksMember : List ℕ → List ℕ → List JsonNode → ℕ → Type 0
BreaksMember name text nodes index =
    ((end : ℕ) → HasInside 6 nodes index end → ⊥)
    ⊎ ((end at : ℕ) × (node : JsonNode) × PassesOthers name text nodes index end at × (at < end)
    × IsAt nodes at node × ((node.next ≤ at) ⊎ (IsNoName text node
    ⊎ (IsNameOf true name text node × (end ≤ node.next)))))

-- ---- elements

-- After `count` elements of the array at `index`, the next has the index `at`.
pub record PassesElements (nodes : List JsonNode) (index end at count : ℕ) : Type 0 where
  pub is_array : HasInside 5 nodes index end
  pub leads : Leads (λ node. ⊤) nodes end (index + 1) at count

-- `FindsElement nodes index position out`: `out` is the index of the element at this position.
abbrev pub FindsElement : List JsonNode → ℕ → ℕ → ℕ → Type 0
FindsElement nodes index position out =
    (end : ℕ) × PassesElements nodes index end out position × (out < end)

-- The array has no more elements.
abbrev pub LacksElement : List JsonNode → ℕ → ℕ → Type 0
LacksElement nodes index position =
    (end at count : ℕ) × PassesElements nodes index end at count × (end ≤ at) × (count ≤ position)

-- There is no array, or the nodes in it are not those of a text.
abbrev pub BreaksElement : List JsonNode → ℕ → ℕ → Type 0
BreaksElement nodes index position =
    ((end : ℕ) → HasInside 5 nodes index end → ⊥)
    ⊎ ((end at count : ℕ) × (node : JsonNode) × PassesElements nodes index end at count
    × (at < end) × (count < position) × IsAt nodes at node × (node.next ≤ at))
