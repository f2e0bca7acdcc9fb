-- The tree that slots hold, and proofs that slots that are changed or added hold the new contents.
use Rattle.std.specs.Prelude.{◌≡◌, ℕ, suc, ◌+◌, ◌<◌, ◌≤◌, List, [], ◌∷◌, ◌++◌, length, Option}
use Rattle.std.specs.Prelude.{Some}
use Rattle.std.specs.Prelude.{None, slice_get, Bool, true, false, Err, MatchResult, Ok, Result}
use Rattle.std.specs.declared.string.String.{String}
use Rattle.std.specs.Borrow.{Bor}
use Rattle.std.specs.BTreeMap.{BTreeMap, get_by}
use Rattle.std.specs.Cmp.Lexicographic.{slice_cmp}
use Rattle.std.specs.Ordering.{nat_cmp}
use Rattle.format_toml_tree.specs.Paths.{Path, Step, last_name, named, placed, put}
use Rattle.format_toml_tree.specs.Rules.{Node, Says, dotted, header, nothing, super, tables, valued}
use Rattle.format_toml_tree.specs.Rules.{IsContainer, adds, defines, dots, gives, passes, ruled}
use Rattle.format_toml_tree.specs.Runs.{IsWithin, Runs, RunsWithin, State, Tree, empty, opened}
use Rattle.format_toml_tree.specs.Runs.{say, say_key}
use Rattle.format_toml_tree.specs.declared.roles.Reason.{Reason}
use Rattle.format_toml_tree.specs.declared.roles.Role.{Role}
use Rattle.format_toml_tree.specs.declared.roles.Role.TheVariants as roles
use Rattle.format_toml_tree.specs.declared.value.Item.{Item}
use Rattle.format_toml_tree.specs.declared.value.Value.{Value}
use Rattle.format_toml_tree.specs.declared.tree.Kind.{Kind}
use Rattle.format_toml_tree.specs.declared.tree.Kind.TheVariants as kinds
use Rattle.format_toml_tree.specs.declared.tree.Slot.{Slot}
use Rattle.format_toml_tree.specs.declared.tree.Stop.{Stop}
use Rattle.format_toml_tree.specs.declared.tree.Stop.TheVariants.{OutOfMemory, Invalid}

-- what a map has at a name
abbrev pub find : {X : Type 0} → BTreeMap (Bor (List ℕ)) X → List ℕ → Option X
find m name = get_by (λ k. slice_cmp nat_cmp name k.now) m

module _ {A : Type 0} where
  -- what a role says
  abbrev pub says_of : Role A → Says A
  says_of roles.Through = passes
  says_of roles.Header = defines
  says_of roles.Tables = adds
  says_of roles.Dotted = dots
  says_of (roles.Value v) = gives v.now

  -- the node of a slot of this kind with `n` elements
  abbrev pub node_of : Kind A → ℕ → Node A
  node_of (kinds.Value v) n = valued v.now
  node_of kinds.Super n = super
  node_of kinds.Header n = header
  node_of kinds.Dotted n = dotted
  node_of kinds.Tables n = tables n

  abbrev pub nodes_of : Result (Kind A) Reason → ℕ → Result (Node A) Reason
  nodes_of (Ok k) n = Ok (node_of k n)
  nodes_of (Err why) n = Err why

  -- a table or an array
  abbrev pub Contains : Kind A → Type 0
  Contains k = IsContainer (node_of k 0)

  abbrev pub node_at : Slot A → Node A
  node_at s = node_of s.kind (length s.elements.items)

  -- The entries of a slot are those that its map has, each once, in the order in which they were
  -- added.
  pub record Lists (s : Slot A) : Type 0 where
    pub entry : (k j : ℕ) → slice_get s.entries.items k ≡ Some j
        → (name : List ℕ) × (find s.places name ≡ Some j)
    pub listed : (name : List ℕ) (j : ℕ) → find s.places name ≡ Some j
        → (k : ℕ) × (slice_get s.entries.items k ≡ Some j)
    pub in_order : (k m a b : ℕ) → k < m → slice_get s.entries.items k ≡ Some a
        → slice_get s.entries.items m ≡ Some b → a < b

  -- Places have a path each, and hold what the tree has there; there is nothing else in the tree.
  pub record Holds (slots : List (Slot A)) (tree : Tree A) (path : ℕ → Path) : Type 0 where
    pub top : path 0 ≡ []
    pub there : (i : ℕ) (s : Slot A) → slice_get slots i ≡ Some s → tree (path i) ≡ node_at s
    pub apart : (i j : ℕ) → i < length slots → j < length slots → path i ≡ path j → i ≡ j
    pub found : (i : ℕ) (s : Slot A) → slice_get slots i ≡ Some s → (name : List ℕ) (j : ℕ)
        → find s.places name ≡ Some j → (j < length slots) × (path j ≡ named name ∷ path i)
    pub missing : (i : ℕ) (s : Slot A) → slice_get slots i ≡ Some s → (name : List ℕ)
        → find s.places name ≡ None → tree (named name ∷ path i) ≡ nothing
    pub elements : (i : ℕ) (s : Slot A) → slice_get slots i ≡ Some s → (k j : ℕ)
        → slice_get s.elements.items k ≡ Some j
        → (j < length slots) × (path j ≡ placed k ∷ path i)
    pub beyond : (i : ℕ) (s : Slot A) → slice_get slots i ≡ Some s → (k : ℕ)
        → length s.elements.items ≤ k → tree (placed k ∷ path i) ≡ nothing
    pub below : (p : Path) (e : Step) → tree p ≡ nothing → tree (e ∷ p) ≡ nothing
    -- a place is before those below it, and that of an element before those of later ones
    pub deeper : (i j : ℕ) (e : Step) → i < length slots → j < length slots
        → path j ≡ e ∷ path i → i < j
    pub rising : (i j a b : ℕ) (p : Path) → i < length slots → j < length slots
        → path i ≡ placed a ∷ p → path j ≡ placed b ∷ p → a < b → i < j
    pub depth : (i : ℕ) (s : Slot A) → slice_get slots i ≡ Some s
        → (s.depth ≡ length (path i)) × (s.depth ≤ i)
    pub called : (i : ℕ) (s : Slot A) → slice_get slots i ≡ Some s
        → s.name.now ≡ last_name (path i)
    pub lists : (i : ℕ) (s : Slot A) → slice_get slots i ≡ Some s → Lists s

  -- Places hold a tree, and one of them is within.
  abbrev pub IsTreeAt : List (Slot A) → ℕ → Type 0
  IsTreeAt slots at =
      (tree : Tree A) × (path : ℕ → Path) × Holds slots tree path × (at < length slots)

  -- Places hold a state after one that others held, and these keep their paths.
  pub record Goes (old : List (Slot A)) (path : ℕ → Path) (s : State A) (j : ℕ)
      (new : List (Slot A)) : Type 0 where
    pub paths : ℕ → Path
    pub holds : Holds new s.0 paths
    pub within : j < length new
    pub at : paths j ≡ s.1
    pub kept : (i : ℕ) → i < length old → paths i ≡ path i
    pub grown : length old ≤ length new
    -- a table or an array was one before
    pub contains : (i : ℕ) (s t : Slot A) → slice_get old i ≡ Some s → slice_get new i ≡ Some t
        → Contains t.kind → Contains s.kind

  -- The result of a call is the slot of a state, or why a statement is rejected.
  abbrev pub SlotResult : List (Slot A) → (ℕ → Path) → Result (State A) Reason → Result ℕ Stop
      → List (Slot A) → Type 0
  SlotResult old path r (Ok j) new = (s : State A) × (r ≡ Ok s) × Goes old path s j new
  SlotResult old path r (Err OutOfMemory) new = Unit {0}
  SlotResult old path r (Err (Invalid why)) new = r ≡ Err why

  -- ---- what calls do

  -- a place with nothing below it
  pub record IsFresh (depth : ℕ) (name : List ℕ) (kind : Kind A) (s : Slot A) : Type 0 where
    pub depth_is : s.depth ≡ depth
    pub name_is : s.name.now ≡ name
    pub kind_is : s.kind ≡ kind
    pub no_places : s.places.entries ≡ []
    pub no_entries : s.entries.items ≡ []
    pub no_elements : s.elements.items ≡ []

  -- one more place, below none
  abbrev pub Pushes : List (Slot A) → ℕ → List ℕ → Kind A → ℕ → List (Slot A) → Type 0
  Pushes old depth name kind j new =
      (fresh : Slot A) × IsFresh depth name kind fresh × (new ≡ old ++ fresh ∷ [])
      × (j ≡ length old)

  -- an entry is added where there is nothing
  abbrev pub AddsEntry : List (Slot A) → ℕ → List ℕ → Kind A → ℕ → List (Slot A) → Type 0
  AddsEntry old table name kind j new =
      (tree : Tree A) (path : ℕ → Path) → Holds old tree path
      → tree (named name ∷ path table) ≡ nothing
      → Goes old path
      (put tree (named name ∷ path table) (node_of kind 0), named name ∷ path table) j new

  -- an element is added after the others
  abbrev pub AddsElement : List (Slot A) → ℕ → Kind A → ℕ → List (Slot A) → Type 0
  AddsElement old array kind j new =
      (tree : Tree A) (path : ℕ → Path) (was : Slot A) → Holds old tree path
      → slice_get old array ≡ Some was
      → Goes old path (
        put (put tree (path array) (node_of was.kind (length was.elements.items + 1)))
            (placed (length was.elements.items) ∷ path array) (node_of kind 0),
        placed (length was.elements.items) ∷ path array,
      ) j new

  -- in an array of tables, its last element
  abbrev pub IsInside : Node A → List ℕ → ℕ → ℕ → Type 0
  IsInside (tables (suc n)) elements place r = slice_get elements n ≡ Some r
  IsInside node elements place r = r ≡ place

  -- what there is at a name is what the rule gives
  abbrev pub Sets : List (Slot A) → ℕ → List ℕ → Says A → Result ℕ Stop → List (Slot A) → Type 0
  Sets old table name says result new =
      (tree : Tree A) (path : ℕ → Path) → Holds old tree path → MatchResult result
      (λ j. (node : Node A) × (ruled says (tree (named name ∷ path table)) ≡ Ok node)
      × Goes old path (put tree (named name ∷ path table) node, named name ∷ path table) j new)
      (λ stop. (why : Reason) → stop ≡ Invalid why
      → ruled says (tree (named name ∷ path table)) ≡ Err why)

  -- the next name is in the table that is opened
  abbrev pub Opens : List (Slot A) → ℕ → Says A → ℕ → List (Slot A) → Type 0
  Opens old place says j new =
      (tree : Tree A) (path : ℕ → Path) → Holds old tree path
      → Goes old path (opened says (tree (path place)) tree (path place)) j new

  abbrev pub SaysName : List (Slot A) → ℕ → List ℕ → Says A → Result ℕ Stop → List (Slot A) → Type 0
  SaysName old table name says result new =
      (tree : Tree A) (path : ℕ → Path) → Holds old tree path
      → SlotResult old path (say says (tree, path table) name) result new

  abbrev pub SaysKey : List (Slot A) → ℕ → List (String A) → Says A → Says A → Result ℕ Stop
      → List (Slot A) → Type 0
  SaysKey old table names before last result new =
      (tree : Tree A) (path : ℕ → Path) → Holds old tree path
      → SlotResult old path (say_key before last (tree, path table) names) result new

  -- values stay
  abbrev pub Keeps : Tree A → Tree A → Type 0
  Keeps tree next = (p : Path) (v : Value A) → tree p ≡ valued v → next p ≡ valued v

  -- The tree is filled below a slot by a rule, which gives a tree, or the reason why a statement is
  -- rejected.
  abbrev pub FillsBy : (Tree A → Path → Result (Tree A) Reason → Type 0) → List (Slot A) → ℕ
      → Result (Unit {0}) Stop → List (Slot A) → Type 0
  FillsBy By old place (Ok done) new =
      (tree : Tree A) (path : ℕ → Path) → Holds old tree path
      → (next : Tree A) × By tree (path place) (Ok next) × Keeps tree next
      × Goes old path (next, path place) place new
  FillsBy By old place (Err OutOfMemory) new = Unit {0}
  FillsBy By old place (Err (Invalid why)) new =
      (tree : Tree A) (path : ℕ → Path) → Holds old tree path
      → By tree (path place) (Err why)

  -- the slot `place` has a value
  abbrev pub IsValueAt : List (Slot A) → ℕ → Type 0
  IsValueAt slots place = (s : Slot A) → slice_get slots place ≡ Some s
      → (value : Bor (Value A)) × (s.kind ≡ kinds.Value value)

  -- places that hold the tree before all statements
  abbrev pub StartsEmpty : List (Slot A) → Type 0
  StartsEmpty slots = (path : ℕ → Path) × Holds slots empty path × (0 < length slots)

  -- The statement of a line is added, or it is rejected.
  abbrev pub AddsItem : List (Slot A) → ℕ → Item A → Result ℕ Stop → List (Slot A) → Type 0
  AddsItem old table item (Ok j) new =
      (tree : Tree A) (path : ℕ → Path) → Holds old tree path
      → (s : State A) × Runs (tree, path table) item (Ok s) × Goes old path s j new
  AddsItem old table item (Err OutOfMemory) new = Unit {0}
  AddsItem old table item (Err (Invalid why)) new =
      (tree : Tree A) (path : ℕ → Path) → Holds old tree path
      → Runs (tree, path table) item (Err why)

  -- The statement of a line is added at a level, or it is rejected.
  abbrev pub AddsLine : ℕ → List (Slot A) → ℕ → Item A → Result ℕ Stop → List (Slot A) → Type 0
  AddsLine level old table item (Ok j) new =
      (tree : Tree A) (path : ℕ → Path) → Holds old tree path → IsWithin level tree
      → (s : State A) × RunsWithin level (tree, path table) item (Ok s) × IsWithin level s.0
      × Goes old path s j new
  AddsLine level old table item (Err OutOfMemory) new = Unit {0}
  AddsLine level old table item (Err (Invalid why)) new =
      (tree : Tree A) (path : ℕ → Path) → Holds old tree path
      → RunsWithin level (tree, path table) item (Err why)

  -- Whether the slots from this one on are tables and arrays of at most this depth, or other
  -- values.
  abbrev pub FitResult : ℕ → List (Slot A) → ℕ → Bool → Type 0
  FitResult level slots from true = (i : ℕ) (s : Slot A) → from ≤ i → slice_get slots i ≡ Some s
      → Contains s.kind → s.depth ≤ level
  FitResult level slots from false = (i : ℕ) × (s : Slot A) × (slice_get slots i ≡ Some s)
      × Contains s.kind × (level < s.depth)

  -- Places hold what there is at each path of a tree.
  abbrev pub HoldsTree : List (Slot A) → Tree A → Type 0
  HoldsTree slots tree = (path : ℕ → Path) × Holds slots tree path × (0 < length slots)
