-- The relation between nodes and the tree of a document.
use Rattle.std.specs.Prelude.{◌≡◌, ◌⊎◌, ℕ, ℤ, pos, ◌+◌, ◌<◌, ◌≤◌, Bool, true, false, cond}
use Rattle.std.specs.Prelude.{List, [], ◌∷◌, ◌++◌, length, slice_get, Some, string_bytes}
use Rattle.format_toml_nodes.specs.declared.node.Span.{Span}
use Rattle.format_toml_nodes.specs.declared.node.TomlNode.{TomlNode}
use Rattle.format_toml_nodes.specs.declared.node.TomlValue.{TomlValue}
use Rattle.format_toml_tree.specs.Paths.{Path, Step, named, placed}
use Rattle.format_toml_tree.specs.Rules.{Node as Given, nothing, valued, super, header, dotted}
use Rattle.format_toml_tree.specs.Rules.{tables}
use Rattle.format_toml_tree.specs.Runs.{Tree}
use Rattle.format_toml_tree.specs.declared.value.Date.{Date}
use Rattle.format_toml_tree.specs.declared.value.DateTime.{DateTime}
use Rattle.format_toml_tree.specs.declared.value.DateTime.TheVariants as date_times
use Rattle.format_toml_tree.specs.declared.value.Offset.{Offset}
use Rattle.format_toml_tree.specs.declared.value.Offset.TheVariants as offsets
use Rattle.format_toml_tree.specs.declared.value.Time.{Time}
use Rattle.format_toml_tree.specs.declared.value.Value.{Value, out-Value}
use Rattle.format_toml_tree.specs.declared.value.Value.TheOpen as forms

-- no bytes
abbrev pub nowhere : Span
nowhere = record { offset = 0; length = 0 }

-- ---- what there is at a node

-- a value of this kind, of which all else is 0
abbrev pub of_kind : ℕ → TomlValue
of_kind kind = record {
  kind = kind;
  year = 0;
  month = 0;
  day = 0;
  hour = 0;
  minute = 0;
  second = 0;
  offset = pos 0;
  integer = pos 0;
  text = nowhere;
}

abbrev pub with_date : Date → TomlValue → TomlValue
with_date date it = record it { year = date.year; month = date.month; day = date.day }

abbrev pub minutes_of : Offset → ℤ
minutes_of offsets.Zulu = pos 0
minutes_of (offsets.Minutes n) = n

abbrev pub number_of : Bool → ℤ
number_of b = cond b (pos 1) (pos 0)

module _ {A : Type 0} where
  abbrev pub with_time : Time A → TomlValue → TomlValue
  with_time time it =
      record it { hour = time.hour; minute = time.minute; second = time.second }

  -- the digits of the fraction of a second
  abbrev pub fraction_of : DateTime A → List ℕ
  fraction_of (date_times.Offset date time offset) = string_bytes time.fraction
  fraction_of (date_times.Local date time) = string_bytes time.fraction
  fraction_of (date_times.Date date) = []
  fraction_of (date_times.Time time) = string_bytes time.fraction

  abbrev pub date_time_of : DateTime A → TomlValue
  date_time_of (date_times.Offset date time offset) =
      record (with_time time (with_date date (of_kind 6))) { offset = minutes_of offset }
  date_time_of (date_times.Local date time) = with_time time (with_date date (of_kind 7))
  date_time_of (date_times.Date date) = with_date date (of_kind 8)
  date_time_of (date_times.Time time) = with_time time (of_kind 9)

  -- the kind and the numbers of a value
  abbrev pub numbers_of : Value A → TomlValue
  numbers_of v = elim (out-Value A v) [
    | forms.Text text ↦ of_kind 2
    | forms.Integer n ↦ record (of_kind 3) { integer = n }
    | forms.Float float ↦ of_kind 4
    | forms.Boolean b ↦ record (of_kind 5) { integer = number_of b }
    | forms.DateTime date_time ↦ date_time_of date_time
    | forms.Array elements ↦ of_kind 1
    | forms.Table entries ↦ of_kind 0
  ]

  -- the kind and the numbers of what is given
  abbrev pub value_of : Given A → TomlValue
  value_of nothing = of_kind 0
  value_of (valued v) = numbers_of v
  value_of super = of_kind 0
  value_of header = of_kind 0
  value_of dotted = of_kind 0
  value_of (tables n) = of_kind 1

  -- the bytes of a value: of a string, of a float, or of a fraction
  abbrev pub bytes_of : Value A → List ℕ
  bytes_of v = elim (out-Value A v) [
    | forms.Text text ↦ string_bytes text
    | forms.Float float ↦ string_bytes float.text
    | forms.DateTime date_time ↦ fraction_of date_time
    | _ ↦ []
  ]

  abbrev pub text_of : Given A → List ℕ
  text_of nothing = []
  text_of (valued v) = bytes_of v
  text_of super = []
  text_of header = []
  text_of dotted = []
  text_of (tables n) = []

-- `StandsAt text place bytes`: `text` has `bytes` at the span `place`, which is `nowhere` if there
-- are none.
pub record StandsAt (text : List ℕ) (place : Span) (bytes : List ℕ) : Type 0 where
  pub before : List ℕ
  pub behind : List ℕ
  pub splits : text ≡ before ++ (bytes ++ behind)
  pub begins : place.offset ≡ length before
  pub ends : place.length ≡ length bytes
  pub none : bytes ≡ [] → place.offset ≡ 0

-- `Shows text it given`: the node value `it` is that of `given`, with its bytes in `text`.
abbrev pub Shows : {A : Type 0} → List ℕ → TomlValue → Given A → Type 0
Shows text it given =
    (it ≡ record (value_of given) { text = it.text }) × StandsAt text it.text (text_of given)

-- ---- how nodes are nested

-- the name of an entry; elements, and the first node, have none
abbrev pub name_of : Path → List ℕ
name_of [] = []
name_of (named name ∷ p) = name
name_of (placed k ∷ p) = []

-- the number of elements before an element
abbrev pub index_of : Path → ℕ
index_of [] = 0
index_of (named name ∷ p) = 0
index_of (placed k ∷ p) = k

abbrev pub is_placed : Path → Bool
is_placed [] = false
is_placed (named name ∷ p) = false
is_placed (placed k ∷ p) = true

-- the path of the table or array; the first node has none, and its own
abbrev pub above : Path → Path
above [] = []
above (e ∷ p) = p

-- `IsIn text path count p it`: the node at the path `p` gives its parent, which is one of `count`
-- nodes, and its name or index there.
abbrev pub IsIn : List ℕ → (ℕ → Path) → ℕ → Path → TomlNode → Type 0
IsIn text path count p it = (it.parent < count) × (path it.parent ≡ above p)
    × StandsAt text it.name (name_of p) × (it.index ≡ index_of p)
    × (it.is_element ≡ is_placed p)

-- the node of number k is in that of number i
abbrev pub HasParent : List TomlNode → ℕ → ℕ → Type 0
HasParent nodes k i = (it : TomlNode) × (slice_get nodes k ≡ Some it) × (it.parent ≡ i)

-- The first node from this number on that is in that of number i, or 0 where there is none.
abbrev pub IsFirstIn : List TomlNode → ℕ → ℕ → ℕ → Type 0
IsFirstIn nodes i from r =
    ((r ≡ 0) × ((k : ℕ) → from ≤ k → HasParent nodes k i → ⊥))
    ⊎ ((from ≤ r) × HasParent nodes r i
    × ((k : ℕ) → from ≤ k → k < r → HasParent nodes k i → ⊥))

-- A node gives the first that is in it, and the next that is in the same; the first node has none.
pub record IsJoined (nodes : List TomlNode) (j : ℕ) (it : TomlNode) : Type 0 where
  pub first : IsFirstIn nodes j 1 it.first
  pub next : 0 < j → IsFirstIn nodes it.parent (j + 1) it.next
  pub alone : j ≡ 0 → it.next ≡ 0

-- The nodes are those of a tree. Each is at a path and has the value there, no two are at the same
-- path, and each path with a value has one of them. A table or an array is before what is in it,
-- and an element before later ones. Texts are in `text`. Otherwise it is open which number a path
-- has, and where in `text` bytes are; these determine all fields of the nodes.
pub record AreNodesOf {A : Type 0} (given : Tree A) (text : List ℕ) (nodes : List TomlNode)
    : Type 0 where
  pub path : ℕ → Path
  pub top : path 0 ≡ []
  pub some : 0 < length nodes
  pub there : (j : ℕ) → j < length nodes → given (path j) ≡ nothing → ⊥
  pub shows : (j : ℕ) (it : TomlNode) → slice_get nodes j ≡ Some it
      → Shows text it.value (given (path j))
  pub is_in : (j : ℕ) (it : TomlNode) → slice_get nodes j ≡ Some it
      → IsIn text path (length nodes) (path j) it
  pub joined : (j : ℕ) (it : TomlNode) → slice_get nodes j ≡ Some it → IsJoined nodes j it
  pub apart : (i j : ℕ) → i < length nodes → j < length nodes → path i ≡ path j → i ≡ j
  pub deeper : (i j : ℕ) (e : Step) → i < length nodes → j < length nodes
      → path j ≡ e ∷ path i → i < j
  pub rising : (i j a b : ℕ) (p : Path) → i < length nodes → j < length nodes
      → path i ≡ placed a ∷ p → path j ≡ placed b ∷ p → a < b → i < j
  pub all : (p : Path) → (given p ≡ nothing)
      ⊎ ((j : ℕ) × (j < length nodes) × (path j ≡ p))
