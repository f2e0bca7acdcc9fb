-- The specification of the functions that write the nodes of a tree.
use Rattle.std.specs.Prelude.{◌≡◌, ◌⊎◌, ℕ, ◌+◌, ◌-◌, ◌<◌, ◌≤◌, ◌^◌, min, false}
use Rattle.std.specs.Prelude.{List, [], ◌∷◌, ◌++◌, length, take, slice_get, Some}
use Rattle.std.specs.Borrow.{Bor}
use Rattle.format_toml_nodes.specs.Nodes.{HasParent, IsFirstIn, IsIn, Shows, nowhere}
use Rattle.format_toml_nodes.specs.Nodes.{text_of}
use Rattle.format_toml_nodes.specs.declared.node.Span.{Span}
use Rattle.format_toml_nodes.specs.declared.node.TomlNode.{TomlNode}
use Rattle.format_toml_nodes.specs.declared.node.TomlValue.{TomlValue}
use Rattle.format_toml_nodes.specs.declared.nodes.Size.{Size}
use Rattle.format_toml_tree.specs.Holds.{Holds, find, node_at}
use Rattle.format_toml_tree.specs.Paths.{Path}
use Rattle.format_toml_tree.specs.Runs.{Tree}
use Rattle.format_toml_tree.specs.declared.tree.Slot.{Slot}
use Rattle.format_toml_tree.specs.declared.tree.Tree.{Tree as TreeOf}

-- the most that is counted to
abbrev pub most : ℕ
most = 2 ^ 64 - 1

-- a sum
abbrev pub total : {X : Type 0} → (X → ℕ) → List X → ℕ
total f [] = 0
total f (x ∷ xs) = f x + total f xs

-- ---- texts

-- `Grows at old end new`: up to `end`, `new` is `old` up to `at` followed by more.
pub record Grows (at : ℕ) (old : List ℕ) (end : ℕ) (new : List ℕ) : Type 0 where
  pub up : at ≤ end
  pub same : length new ≡ length old
  pub there : end ≤ length old → (more : List ℕ) × (take end new ≡ take at old ++ more)

-- `bytes` is written at offset `at` of a text, if it fits, and `end` is the offset after it.
pub record Puts (bytes : List ℕ) (at : ℕ) (old : List ℕ) (end : ℕ) (new : List ℕ) : Type 0 where
  pub is_end : end ≡ min (at + length bytes) most
  pub up : at ≤ end
  pub same : length new ≡ length old
  pub there : end ≤ length old → take end new ≡ take at old ++ bytes

-- `Fits bytes at place`: `place` is the span of `bytes` from the offset `at` on, or `nowhere`.
abbrev pub Fits : List ℕ → ℕ → Span → Type 0
Fits [] at place = place ≡ nowhere
Fits (b ∷ bytes) at place = place ≡ record { offset = at; length = length (b ∷ bytes) }

-- ---- nodes

-- the node of a value, without a position or links
abbrev pub alone : TomlValue → TomlNode
alone value = record {
  parent = 0;
  first = 0;
  next = 0;
  index = 0;
  name = nowhere;
  value = value;
  is_element = false;
}

-- a node has no links
abbrev pub IsApart : TomlNode → Type 0
IsApart it = (it.first ≡ 0) × (it.next ≡ 0)

-- a node keeps its value and its links
abbrev pub Keeps : TomlNode → TomlNode → Type 0
Keeps was it = (it.value ≡ was.value) × (it.first ≡ was.first) × (it.next ≡ was.next)

-- `IsPlacedAs at was it`: `it` is `was` with the parent, the name and the index of `at`.
abbrev pub IsPlacedAs : TomlNode → TomlNode → TomlNode → Type 0
IsPlacedAs at was it = it ≡ record was {
  parent = at.parent;
  name = at.name;
  index = at.index;
  is_element = at.is_element;
}

-- A node changes so, if it is there, and the others stay.
pub record ChangesAt (so : TomlNode → TomlNode → Type 0) (j : ℕ) (old new : List TomlNode) : Type 0
  where
    pub same : length new ≡ length old
    pub each : (k : ℕ) (it : TomlNode) → slice_get new k ≡ Some it
        → ((k ≡ j) × ((was : TomlNode) × (slice_get old k ≡ Some was) × so was it))
        ⊎ ((k ≡ j → ⊥) × (slice_get old k ≡ Some it))

-- `Each so old new`: `so` relates each old node to the new one.
pub record Each (so : TomlNode → TomlNode → Type 0) (old new : List TomlNode) : Type 0 where
  pub same : length new ≡ length old
  pub each : (k : ℕ) (it : TomlNode) → slice_get new k ≡ Some it
      → (was : TomlNode) × (slice_get old k ≡ Some was) × so was it

-- If there is a node of this number, it has the position that its path gives.
abbrev pub InParent : List ℕ → (ℕ → Path) → ℕ → List TomlNode → ℕ → Type 0
InParent text path count nodes j = (it : TomlNode) → slice_get nodes j ≡ Some it
    → IsIn text path count (path j) it

abbrev pub name_len : Bor (List ℕ) × ℕ → ℕ
name_len e = length e.0.now

module _ {A : Type 0} where
  -- the number of bytes of the value of a slot
  abbrev pub text_len : Slot A → ℕ
  text_len s = length (text_of (node_at s))

  -- how many bytes the names of its entries have
  abbrev pub names_len : Slot A → ℕ
  names_len s = total name_len s.places.entries

  -- `Below s so`: `so` holds for each entry and each element of the slot `s`.
  abbrev pub Below : Slot A → (ℕ → Type 0) → Type 0
  Below s so = ((name : List ℕ) (j : ℕ) → find s.places name ≡ Some j → so j)
      × ((k j : ℕ) → slice_get s.elements.items k ≡ Some j → so j)

  -- Values are put, each for a place.
  pub record PutsValues (slots : List (Slot A)) (old : List ℕ) (before : List TomlNode) (end : ℕ)
      (new : List ℕ) (after : List TomlNode) : Type 0 where
    pub count : end ≡ min (total text_len slots) most
    pub same : (length new ≡ length old) × (length after ≡ length before)
    pub shows : end ≤ length old → (k : ℕ) (s : Slot A) (it : TomlNode)
        → slice_get slots k ≡ Some s → slice_get after k ≡ Some it
        → Shows (take end new) it.value (node_at s)
    pub apart : (k : ℕ) (it : TomlNode) → k < length slots → slice_get after k ≡ Some it
        → it ≡ alone it.value

  -- The entries of a slot get their names.
  pub record PutsEntries (slots : List (Slot A)) (parent at : ℕ) (old : List ℕ)
      (before : List TomlNode) (end : ℕ) (new : List ℕ) (after : List TomlNode) : Type 0 where
    pub count : (s : Slot A) → slice_get slots parent ≡ Some s → end ≡ min (at + names_len s) most
    pub grows : Grows at old end new
    pub keeps : Each Keeps before after
    pub names : (tree : Tree A) (path : ℕ → Path) → Holds slots tree path → end ≤ length old
        → (s : Slot A) → slice_get slots parent ≡ Some s
        → ((j : ℕ) → InParent (take at old) path (length slots) before j
        → InParent (take end new) path (length slots) after j)
        × ((name : List ℕ) (j : ℕ) → find s.places name ≡ Some j
        → InParent (take end new) path (length slots) after j)

  -- The elements of a slot get their numbers.
  pub record PutsElements (slots : List (Slot A)) (parent : ℕ) (before after : List TomlNode)
      : Type 0 where
    pub keeps : Each Keeps before after
    pub numbers : (tree : Tree A) (path : ℕ → Path) → Holds slots tree path → (text : List ℕ)
        → (s : Slot A) → slice_get slots parent ≡ Some s
        → ((j : ℕ) → InParent text path (length slots) before j
        → InParent text path (length slots) after j)
        × ((k j : ℕ) → slice_get s.elements.items k ≡ Some j
        → InParent text path (length slots) after j)

  -- Everything below each slot gets its position.
  pub record PutsLinks (slots : List (Slot A)) (at : ℕ) (old : List ℕ) (before : List TomlNode)
      (end : ℕ) (new : List ℕ) (after : List TomlNode) : Type 0 where
    pub count : end ≡ min (at + total names_len slots) most
    pub grows : Grows at old end new
    pub keeps : Each Keeps before after
    pub leads : (tree : Tree A) (path : ℕ → Path) → Holds slots tree path → end ≤ length old
        → ((j : ℕ) → InParent (take at old) path (length slots) before j
        → InParent (take end new) path (length slots) after j)
        × ((i : ℕ) (s : Slot A) → slice_get slots i ≡ Some s
        → Below s (InParent (take end new) path (length slots) after))

  -- All is put, but the first and the next of each.
  pub record PutsAll (slots : List (Slot A)) (old : List ℕ) (before : List TomlNode) (end : ℕ)
      (new : List ℕ) (after : List TomlNode) : Type 0 where
    pub count : end ≡ min (total text_len slots + total names_len slots) most
    pub same : (length new ≡ length old) × (length after ≡ length before)
    pub shows : end ≤ length old → (k : ℕ) (s : Slot A) (it : TomlNode)
        → slice_get slots k ≡ Some s → slice_get after k ≡ Some it
        → Shows (take end new) it.value (node_at s)
    pub apart : (k : ℕ) (it : TomlNode) → k < length slots → slice_get after k ≡ Some it
        → IsApart it
    pub leads : (tree : Tree A) (path : ℕ → Path) → Holds slots tree path → end ≤ length old
        → (0 < length slots → InParent (take end new) path (length slots) after 0)
        × ((i : ℕ) (s : Slot A) → slice_get slots i ≡ Some s
        → Below s (InParent (take end new) path (length slots) after))

  -- It is the size of a tree: as many nodes as places, and the bytes of all.
  abbrev pub IsSizeOf : TreeOf A → Size → Type 0
  IsSizeOf tree size = (size.nodes ≡ length tree.slots.items)
      × (size.text ≡ min (total text_len tree.slots.items + total names_len tree.slots.items) most)

-- ---- joins

-- a node keeps all but its links
abbrev pub Stays : TomlNode → TomlNode → Type 0
Stays was it = it ≡ record was { first = it.first; next = it.next }

abbrev pub IsBefore : ℕ → TomlNode → TomlNode → Type 0
IsBefore next was it = it ≡ record was { next = next }

abbrev pub IsAbove : ℕ → TomlNode → TomlNode → Type 0
IsAbove first was it = it ≡ record was { first = first }

-- Nodes are joined from this number on.
pub record JoinsFrom (from : ℕ) (old new : List TomlNode) : Type 0 where
  pub stays : Each Stays old new
  pub firsts : (j : ℕ) (it : TomlNode) → slice_get new j ≡ Some it → IsFirstIn old j from it.first
  pub nexts : (j : ℕ) (it : TomlNode) → from ≤ j → slice_get new j ≡ Some it
      → it.parent < length old → IsFirstIn old it.parent (j + 1) it.next
  pub others : (j : ℕ) (it : TomlNode) → j < from → slice_get new j ≡ Some it → it.next ≡ 0

-- One is put first in the one that it is in.
pub record JoinsOne (number : ℕ) (old new : List TomlNode) : Type 0 where
  pub same : length new ≡ length old
  pub stays : Each Stays old new
  pub first : (j : ℕ) (it : TomlNode) → slice_get new j ≡ Some it
      → (HasParent old number j × (it.first ≡ number))
      ⊎ ((HasParent old number j → ⊥)
      × ((was : TomlNode) × (slice_get old j ≡ Some was) × (it.first ≡ was.first)))
  pub next : (it : TomlNode) → slice_get new number ≡ Some it → it.parent < length old
      → (above : TomlNode) × (slice_get old it.parent ≡ Some above) × (it.next ≡ above.first)
  pub others : (j : ℕ) (it : TomlNode) → (j ≡ number → ⊥) → slice_get new j ≡ Some it
      → (was : TomlNode) × (slice_get old j ≡ Some was) × (it.next ≡ was.next)

-- no node has links
abbrev pub AreApart : List TomlNode → Type 0
AreApart nodes = (j : ℕ) (it : TomlNode) → slice_get nodes j ≡ Some it → IsApart it
