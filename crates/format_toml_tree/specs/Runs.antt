-- The tree that the statements of a document give, or the first that is rejected (TOML 1.0).
use Rattle.std.specs.Prelude.{◌≡◌, ℕ, suc, ◌+◌, ◌<◌, ◌≤◌, List, [], ◌∷◌, Result, Ok, Err}
use Rattle.std.specs.Prelude.{length, string_bytes}
use Rattle.std.specs.declared.string.String.{String}
use Rattle.std.specs.declared.vec.Vec.{Vec}
use Rattle.format_toml_tree.specs.Paths.{Path, named, placed, put}
use Rattle.format_toml_tree.specs.Rules.{Node, Says, ruled, nothing, valued, header, tables, passes}
use Rattle.format_toml_tree.specs.Rules.{IsContainer, defines, adds, dots, gives}
use Rattle.format_toml_tree.specs.declared.roles.Reason.{Reason}
use Rattle.format_toml_tree.specs.declared.roles.Reason.TheVariants.{TooDeep}
use Rattle.format_toml_tree.specs.declared.value.Key.{Key}
use Rattle.format_toml_tree.specs.declared.value.Item.{Item}
use Rattle.format_toml_tree.specs.declared.value.Item.TheVariants as items
use Rattle.format_toml_tree.specs.declared.value.Value.{Value}
use Rattle.format_toml_tree.specs.declared.value.Value.TheVariants as values

-- continues if there is no error
abbrev pub then : {X Y E : Type 0} → Result X E → (X → Result Y E) → Result Y E
then (Ok x) f = f x
then (Err e) f = Err e

module _ (A : Type 0) where
  -- The contents of each path.
  abbrev pub Tree : Type 0
  Tree = Path → Node A

  -- A tree, and the path of the table that the next name is in.
  abbrev pub State : Type 0
  State = Tree × Path

module _ {A : Type 0} where
  -- The tree before all statements: its top is a table.
  abbrev pub empty : Tree A
  empty [] = header
  empty (e ∷ p) = nothing

  -- Where an array of tables is passed, the next name is in its last table.
  abbrev pub entered : Node A → Tree A → Path → State A
  entered (tables (suc n)) tree q = (tree, placed n ∷ q)
  entered node tree q = (tree, q)

  -- Where `[[key]]` adds a table to it, the next name is in the new one.
  abbrev pub grown : Node A → Tree A → Path → State A
  grown (tables n) tree q =
      (put (put tree q (tables (n + 1))) (placed n ∷ q) header, placed n ∷ q)
  grown node tree q = (tree, q)

  -- The table that the next name is in.
  abbrev pub opened : Says A → Node A → Tree A → Path → State A
  opened adds node tree q = grown node tree q
  opened says node tree q = entered node tree q

  -- A statement says something of a name in the table of a path.
  abbrev pub say : Says A → State A → List ℕ → Result (State A) Reason
  say says s name =
      then (ruled says (s.0 (named name ∷ s.1)))
      (λ node. Ok (opened says node (put s.0 (named name ∷ s.1) node) (named name ∷ s.1)))

  -- It says one thing of the last name of a key, and another of each before it.
  abbrev pub say_key : Says A → Says A → State A → List (String A) → Result (State A) Reason
  say_key before last s [] = Ok s
  say_key before last s (name ∷ []) = say last s (string_bytes name)
  say_key before last s (name ∷ next ∷ names) =
      then (say before s (string_bytes name)) (λ t. say_key before last t (next ∷ names))

  -- there is a value at a path
  abbrev pub HasValue : Tree A → Path → Type 0
  HasValue tree q = (v : Value A) × (tree q ≡ valued v)

  -- the first place of an array that is free
  pub record IsNext (tree : Tree A) (q : Path) (k : ℕ) : Type 0 where
    pub free : tree (placed k ∷ q) ≡ nothing
    pub taken : (j : ℕ) → j < k → tree (placed j ∷ q) ≡ nothing → ⊥

  mutual
    -- A value fills the tree below its path: an array by its elements, an inline table by its
    -- entries, as those of a document.
    pub data Fills : Tree A → Path → Value A → Result (Tree A) Reason → Type 0 where
      array : {tree : Tree A} {q : Path} {v : Value A} {r : Result (Tree A) Reason}
          (vs : Vec (Value A) A) → HasValue tree q → v ≡ values.Array vs
          → FillsPlaces tree q vs.items r → Fills tree q v r
      inline : {tree : Tree A} {q : Path} {v : Value A} {r : Result (Tree A) Reason}
          (es : Vec (Key A × Value A) A) → HasValue tree q → v ≡ values.Table es
          → FillsNames tree q es.items r → Fills tree q v r
      -- any other value has no parts
      single : {tree : Tree A} {q : Path} {v : Value A}
          → ((vs : Vec (Value A) A) → v ≡ values.Array vs → ⊥)
          → ((es : Vec (Key A × Value A) A) → v ≡ values.Table es → ⊥)
          → Fills tree q v (Ok tree)
      -- a key that has no name gave no value
      nowhere : {tree : Tree A} {q : Path} {v : Value A} → (HasValue tree q → ⊥)
          → Fills tree q v (Ok tree)

    -- Values are added to the end of an array, in sequence.
    pub data FillsPlaces : Tree A → Path → List (Value A) → Result (Tree A) Reason → Type 0 where
      no_more : {tree : Tree A} {q : Path} → FillsPlaces tree q [] (Ok tree)
      place : {tree next : Tree A} {q : Path} {v : Value A} {vs : List (Value A)}
          {r : Result (Tree A) Reason} (k : ℕ) → IsNext tree q k
          → Fills (put tree (placed k ∷ q) (valued v)) (placed k ∷ q) v (Ok next)
          → FillsPlaces next q vs r → FillsPlaces tree q (v ∷ vs) r
      place_refused : {tree : Tree A} {q : Path} {v : Value A} {vs : List (Value A)}
          {why : Reason} (k : ℕ) → IsNext tree q k
          → Fills (put tree (placed k ∷ q) (valued v)) (placed k ∷ q) v (Err why)
          → FillsPlaces tree q (v ∷ vs) (Err why)

    -- Keys get their values in the table of a path, in sequence.
    pub data FillsNames : Tree A → Path → List (Key A × Value A) → Result (Tree A) Reason → Type 0
      where
        no_more_names : {tree : Tree A} {q : Path} → FillsNames tree q [] (Ok tree)
        name : {tree next : Tree A} {q : Path} {e : Key A × Value A}
            {es : List (Key A × Value A)} {r : Result (Tree A) Reason}
            → FillsEntry tree q e.0 e.1 (Ok next)
            → FillsNames next q es r → FillsNames tree q (e ∷ es) r
        name_refused : {tree : Tree A} {q : Path} {e : Key A × Value A}
            {es : List (Key A × Value A)} {why : Reason}
            → FillsEntry tree q e.0 e.1 (Err why)
            → FillsNames tree q (e ∷ es) (Err why)

    -- A key is given its value in the table of a path.
    pub data FillsEntry : Tree A → Path → Key A → Value A → Result (Tree A) Reason → Type 0 where
      entry_refused : {tree : Tree A} {q : Path} {key : Key A} {v : Value A} {why : Reason}
          → say_key dots (gives v) (tree, q) key.names.items ≡ Err why
          → FillsEntry tree q key v (Err why)
      entry : {tree : Tree A} {q : Path} {key : Key A} {v : Value A} {r : Result (Tree A) Reason}
          (s : State A) → say_key dots (gives v) (tree, q) key.names.items ≡ Ok s
          → Fills s.0 s.1 v r → FillsEntry tree q key v r

  -- A statement, from the tree and the current table to those after it, or why it is rejected.
  abbrev pub Runs : State A → Item A → Result (State A) Reason → Type 0
  Runs s (items.Table key) r = r ≡ say_key passes defines (s.0, []) key.names.items
  Runs s (items.Tables key) r = r ≡ say_key passes adds (s.0, []) key.names.items
  Runs s (items.Entry key value) r = (t : Result (Tree A) Reason)
      × FillsEntry s.0 s.1 key value t × (r ≡ then t (λ tree. Ok (tree, s.1)))

  -- Each table and each array is nested at most `level` deep: its path has at most `level` steps.
  abbrev pub IsWithin : ℕ → Tree A → Type 0
  IsWithin level tree = (p : Path) → IsContainer (tree p) → length p ≤ level

  -- The statement of a line at a level. It is rejected if the standard rejects it, or if the tree
  -- after it has a table or an array that is nested too deeply.
  pub data RunsWithin (level : ℕ) (s : State A) (item : Item A)
      : Result (State A) Reason → Type 0
    where
      allowed : {t : State A} → Runs s item (Ok t) → IsWithin level t.0
          → RunsWithin level s item (Ok t)
      invalid : {why : Reason} → Runs s item (Err why) → RunsWithin level s item (Err why)
      too_deep : (t : State A) → Runs s item (Ok t) → (IsWithin level t.0 → ⊥)
          → RunsWithin level s item (Err TooDeep)

  -- The lines of a document that are not blank, from the `k`-th of these on, give a tree, or one of
  -- them is rejected first.
  pub data Gives (level : ℕ)
      : State A → ℕ → List (Item A) → Result (Tree A) (ℕ × Reason) → Type 0
    where
      ended : {s : State A} {k : ℕ} → Gives level s k [] (Ok s.0)
      accepted : {s t : State A} {k : ℕ} {item : Item A} {lines : List (Item A)}
          {r : Result (Tree A) (ℕ × Reason)} → RunsWithin level s item (Ok t)
          → Gives level t (k + 1) lines r → Gives level s k (item ∷ lines) r
      refused : {s : State A} {k : ℕ} {item : Item A} {lines : List (Item A)}
          {why : Reason} → RunsWithin level s item (Err why)
          → Gives level s k (item ∷ lines) (Err (k, why))
