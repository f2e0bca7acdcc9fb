-- Statements about a name, and their effects (TOML 1.0: Keys, Table, Inline Table, Array of
-- Tables).
use Rattle.std.specs.Prelude.{◌≡◌, ◌⊎◌, ⊤, ℕ, Result, Ok, Err}
use Rattle.std.specs.declared.vec.Vec.{Vec}
use Rattle.format_toml_tree.specs.declared.roles.Reason.{Reason}
use Rattle.format_toml_tree.specs.declared.roles.Reason.TheVariants.{Defined, NoTable, Closed}
use Rattle.format_toml_tree.specs.declared.roles.Reason.TheVariants.{NoTables}
use Rattle.format_toml_tree.specs.declared.value.Key.{Key}
use Rattle.format_toml_tree.specs.declared.value.Value.{Value, out-Value}
use Rattle.format_toml_tree.specs.declared.value.Value.TheOpen as forms
use Rattle.format_toml_tree.specs.declared.value.Value.TheVariants as values

module _ (A : Type 0) where
  -- The contents of a tree at a path.
  pub data Node : Type 0 where
    nothing : Node
    -- a value: what is below it are the parts of an array or an inline table
    valued : Value A → Node
    -- a table that headers passed through, but none has defined
    super : Node
    -- the table of a header, or an element of an array of tables
    header : Node
    -- a table that dotted keys defined
    dotted : Node
    -- an array of this number of tables
    tables : ℕ → Node

  -- A statement about a name.
  pub data Says : Type 0 where
    -- a header has it before its last name
    passes : Says
    -- it is the last name of `[key]`
    defines : Says
    -- it is the last name of `[[key]]`
    adds : Says
    -- a dotted key has it before its last name
    dots : Says
    -- it is the last name of a key with this value
    gives : Value A → Says

module _ {A : Type 0} where
  -- A table: that of a header, one that headers or dotted keys passed through, or an inline one.
  abbrev pub IsTable : Node A → Type 0
  IsTable nothing = ⊥
  IsTable (valued v) = (entries : Vec (Key A × Value A) A) × (v ≡ values.Table entries)
  IsTable super = ⊤
  IsTable header = ⊤
  IsTable dotted = ⊤
  IsTable (tables n) = ⊥

  -- An array: of tables, or of values.
  abbrev pub IsArray : Node A → Type 0
  IsArray nothing = ⊥
  IsArray (valued v) = (elements : Vec (Value A) A) × (v ≡ values.Array elements)
  IsArray super = ⊥
  IsArray header = ⊥
  IsArray dotted = ⊥
  IsArray (tables n) = ⊤

  abbrev pub IsContainer : Node A → Type 0
  IsContainer node = IsTable node ⊎ IsArray node

  -- An inline table is closed: "keys and sub-tables cannot be added outside the braces". Any other
  -- value is not a table.
  abbrev pub no_table : Value A → Reason
  no_table v = elim (out-Value A v) [
    | forms.Table entries ↦ Closed
    | _ ↦ NoTable
  ]

  -- The contents after the statement, or why it is rejected.
  abbrev pub ruled : Says A → Node A → Result (Node A) Reason
  -- "You don't need to specify all the super-tables if you don't want to."
  ruled passes nothing = Ok super
  ruled passes super = Ok super
  ruled passes header = Ok header
  -- "The [table] form can be used to define sub-tables within tables defined via dotted keys."
  ruled passes dotted = Ok dotted
  -- "Any reference to an array of tables points to the most recently defined table element."
  ruled passes (tables n) = Ok (tables n)
  ruled passes (valued v) = Err (no_table v)
  ruled defines nothing = Ok header
  -- "defining a super-table afterward is ok"
  ruled defines super = Ok header
  -- "Like keys, you cannot define a table more than once."
  ruled defines header = Err Defined
  -- "such tables cannot be redefined using a [table] header"
  ruled defines dotted = Err Defined
  -- "attempting to redefine an array of tables as a normal table" is rejected
  ruled defines (tables n) = Err Defined
  ruled defines (valued v) = Err Defined
  ruled adds nothing = Ok (tables 0)
  ruled adds (tables n) = Ok (tables n)
  -- "attempting to append to a statically defined array", or to a table, is rejected
  ruled adds super = Err NoTables
  ruled adds header = Err NoTables
  ruled adds dotted = Err NoTables
  ruled adds (valued v) = Err NoTables
  -- "Dotted keys create and define a table for each key part before the last one."
  ruled dots nothing = Ok dotted
  ruled dots super = Ok dotted
  ruled dots dotted = Ok dotted
  -- "using dotted keys to redefine tables already defined in [table] form is not allowed"
  ruled dots header = Err Closed
  ruled dots (tables n) = Err Closed
  ruled dots (valued v) = Err (no_table v)
  -- "Defining a key multiple times is invalid."
  ruled (gives v) nothing = Ok (valued v)
  ruled (gives v) (valued w) = Err Defined
  ruled (gives v) super = Err Defined
  ruled (gives v) header = Err Defined
  ruled (gives v) dotted = Err Defined
  ruled (gives v) (tables n) = Err Defined
