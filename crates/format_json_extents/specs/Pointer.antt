-- JSON pointers (RFC 6901), and the values that they identify.
use Rattle.std.specs.Prelude.{⊤, ◌≡◌, ◌↔◌, ◌⊎◌, ◌-◌, ℕ, suc, Bool, true, false, List, [], ◌∷◌}
use Rattle.std.specs.Prelude.{◌++◌, Option, Some, None}
use Rattle.std.specs.List.{All}
use Rattle.format_json_extents.specs.Integer.{IsNatural}
use Rattle.format_json_extents.specs.Names.{IsCompared, name_text}
use Rattle.format_json_extents.specs.Number.{IsNumber}
use Rattle.format_json_extents.specs.Texts.{MatchesAtStart, RestAfter}
use Rattle.format_json_extents.specs.Value.{ExtendsNumberOf, IsEmptyTail, IsItem, IsName, IsValue}
use Rattle.format_json_extents.specs.Value.{IsWhitespace, closing_bracket, opening_bracket}
use Rattle.format_json_extents.specs.declared.pointer.Lookup.{Lookup}
use Rattle.format_json_extents.specs.declared.pointer.Lookup.TheVariants as lookup

-- ---- syntax (section 3)

-- The rest of an escape after its tilde: `0` or `1` first.
abbrev pub BeginsEscape : List ℕ → Type 0
BeginsEscape [] = ⊥
BeginsEscape (b ∷ more) = (b ≡ 48) ⊎ (b ≡ 49)

-- Each tilde begins an escape.
abbrev pub AreEscapes : List ℕ → Type 0
AreEscapes [] = ⊤
AreEscapes (b ∷ more) = (b ≡ 126 → BeginsEscape more) × AreEscapes more

-- A pointer: nothing, or reference tokens after a slash each.
abbrev pub IsPointer : List ℕ → Type 0
IsPointer [] = ⊤
IsPointer (b ∷ more) = (b ≡ 47) × AreEscapes more

-- Nothing, or a slash and more.
abbrev pub IsRooted : List ℕ → Type 0
IsRooted [] = ⊤
IsRooted (b ∷ more) = b ≡ 47

-- not a slash
abbrev pub IsTokenByte : ℕ → Type 0
IsTokenByte b = b ≡ 47 → ⊥

-- `IsTokenOf token bytes after`: `bytes` starts with the reference token `token`, up to the next
-- slash, followed by `after`.
pub record IsTokenOf (token bytes after : List ℕ) : Type 0 where
  pub no_slash : All IsTokenByte token
  pub splits : bytes ≡ token ++ after
  pub is_rooted : IsRooted after

-- `IsToken bytes after`: `after` follows the reference token at the start of `bytes`.
abbrev pub IsToken : List ℕ → List ℕ → Type 0
IsToken bytes after = (token : List ℕ) × IsTokenOf token bytes after

-- ---- items (section 4)

-- `IsIndex token index`: the index that a reference token is, a natural number of JSON; `None` if
-- it is not, or does not fit 64 bits.
abbrev pub IsIndex : List ℕ → Option ℕ → Type 0
IsIndex token (Some n) = IsNumber token × IsNatural token (Some n)
IsIndex token None = IsNumber token → IsNatural token None

-- The index that a reference token is in an array (`false`); none in an object (`true`).
abbrev pub IsIndexFor : Bool → List ℕ → Option ℕ → Type 0
IsIndexFor true token index = index ≡ None
IsIndexFor false token index = IsIndex token index

-- an index, from the next element on
abbrev pub lower : Option ℕ → Option ℕ
lower (Some n) = Some (n - 1)
lower None = None

-- `IsSought keyed same index token bytes`: `same` is whether `bytes` starts with the item that the
-- token selects: the member of this name, or the element of index 0.
abbrev pub IsSought : Bool → Bool → Option ℕ → List ℕ → List ℕ → Type 0
IsSought true same index token bytes =
    (gap name rest : List ℕ) × IsWhitespace gap × (bytes ≡ gap ++ name)
    × IsCompared same (name_text true token) name rest
IsSought false same index token bytes = (same ≡ true) ↔ (index ≡ Some 0)

-- `PassesItems keyed level index token inside at left`: from after the opening bracket, the items
-- before `at` are not selected. From there on the index is `left`.
pub data PassesItems (keyed : Bool) (level : ℕ) (index : Option ℕ) (token inside : List ℕ)
    : List ℕ → Option ℕ → Type 0 where
  passes_nothing : PassesItems keyed level index token inside inside index
  passes_item : (at next : List ℕ) (left : Option ℕ)
      → PassesItems keyed level index token inside at left → IsSought keyed false left token at
      → MatchesAtStart (IsItem keyed (IsValue level)) at (44 ∷ next)
      → PassesItems keyed level index token inside next (lower left)

-- `HasItem keyed level index token inside start rest`: the first selected item has the longest
-- value at `start`, followed by `rest`.
pub record HasItem (keyed : Bool) (level : ℕ) (index : Option ℕ)
    (token inside start rest : List ℕ) : Type 0 where
  pub at : List ℕ
  pub left : Option ℕ
  pub named : List ℕ
  pub passes : PassesItems keyed level index token inside at left
  pub is_sought : IsSought keyed true left token at
  pub is_name : MatchesAtStart (IsName keyed) at named
  pub is_gap : MatchesAtStart IsWhitespace named start
  pub is_value : RestAfter (IsValue level) (ExtendsNumberOf start) start rest

-- `LacksItem keyed level index token inside`: there are no items, or none of them is selected.
abbrev pub LacksItem : Bool → ℕ → Option ℕ → List ℕ → List ℕ → Type 0
LacksItem keyed level index token inside =
    ((rest : List ℕ) × MatchesAtStart (IsEmptyTail keyed) inside rest)
    ⊎ ((at rest : List ℕ) × (left : Option ℕ) × PassesItems keyed level index token inside at left
    × IsSought keyed false left token at
    × MatchesAtStart (IsItem keyed (IsValue level)) at (closing_bracket keyed ∷ rest))

-- `IsFoundItem found keyed level index token inside start rest`: `found` is whether an item is
-- selected.
abbrev pub IsFoundItem : Bool → Bool → ℕ → Option ℕ → List ℕ → List ℕ → List ℕ → List ℕ → Type 0
IsFoundItem true keyed level index token inside start rest =
    HasItem keyed level index token inside start rest
IsFoundItem false keyed level index token inside start rest =
    LacksItem keyed level index token inside

-- ---- values

-- An array or an object of at most `level` levels, with these bytes after its opening bracket, and
-- the index that the token is there.
pub record IsContainer (keyed : Bool) (level : ℕ) (token value : List ℕ) (inner : ℕ)
    (index : Option ℕ) (inside : List ℕ) : Type 0 where
  pub is_deep : level ≡ suc inner
  pub opens : value ≡ opening_bracket keyed ∷ inside
  pub is_index : IsIndexFor keyed token index

-- `LacksChild keyed level token value`: `value` starts with an object (`true`) or an array without
-- a selected item.
abbrev pub LacksChild : Bool → ℕ → List ℕ → List ℕ → Type 0
LacksChild keyed level token value =
    (inner : ℕ) × (index : Option ℕ) × (inside : List ℕ)
    × IsContainer keyed level token value inner index inside
    × LacksItem keyed inner index token inside

-- `IsChild result level token value start rest`: the result of a search for the value that the
-- token selects in the value at the start of `value`. It is at `start`, followed by `rest`.
abbrev pub IsChild : Lookup → ℕ → List ℕ → List ℕ → List ℕ → List ℕ → Type 0
IsChild lookup.Found level token value start rest =
    (keyed : Bool) × (inner : ℕ) × (index : Option ℕ) × (inside : List ℕ)
    × IsContainer keyed level token value inner index inside
    × HasItem keyed inner index token inside start rest
IsChild lookup.NoMember level token value start rest = LacksChild true level token value
IsChild lookup.NoElement level token value start rest = LacksChild false level token value
IsChild lookup.NotAContainer level token value start rest =
    (keyed : Bool) (more : List ℕ) → value ≡ opening_bracket keyed ∷ more → ⊥

-- `Reaches level text pointer depth here rest tokens`: the pointer without `tokens` identifies the
-- value at `here`, nested at most `depth` deep, which `rest` follows.
pub data Reaches (level : ℕ) (text pointer : List ℕ)
    : ℕ → List ℕ → List ℕ → List ℕ → Type 0 where
  reaches_root : (here rest : List ℕ) → MatchesAtStart IsWhitespace text here
      → RestAfter (IsValue level) (ExtendsNumberOf here) here rest
      → Reaches level text pointer level here rest pointer
  reaches_child : (depth : ℕ) (here rest more token after start end : List ℕ)
      → Reaches level text pointer (suc depth) here rest (47 ∷ more) → IsTokenOf token more after
      → IsChild lookup.Found (suc depth) token here start end
      → Reaches level text pointer depth start end after

-- `IsLookup result level text pointer here rest`: the result of a search by the pointer, and the
-- innermost value that the pointer reaches.
abbrev pub IsLookup : Lookup → ℕ → List ℕ → List ℕ → List ℕ → List ℕ → Type 0
IsLookup lookup.Found level text pointer here rest =
    (depth : ℕ) × Reaches level text pointer depth here rest []
IsLookup result level text pointer here rest =
    (depth : ℕ) × (more token after : List ℕ)
    × Reaches level text pointer depth here rest (47 ∷ more) × IsTokenOf token more after
    × ((start end : List ℕ) × IsChild result depth token here start end)
