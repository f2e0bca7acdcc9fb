-- Documents of TOML, and where their nodes are written.
use Rattle.std.specs.Prelude.{◌≡◌, ℕ, List, [], Option, Some, None, Ok}
use Rattle.std.specs.Str.{IsUtf8, chars}
use Rattle.std.specs.declared.alloc.Global.{Global}
use Rattle.std.specs.declared.vec.Vec.{Vec}
use Rattle.exported.specs.Code.{invalid, invalid_utf8, no_memory}
use Rattle.exported.specs.TomlErrors.{expected_of, reason_of}
use Rattle.exported.specs.declared.toml.TomlResult.{TomlResult}
use Rattle.format_toml.specs.Toml.{DocumentText}
use Rattle.format_toml_document.specs.Fault.{IsBroken, IsDocument, IsErrorOf}
use Rattle.format_parts.specs.declared.location.Location.{Location}
use Rattle.format_toml_document.specs.declared.fault.TomlError.{TomlError}
use Rattle.format_toml_document.specs.declared.fault.TomlError.TheVariants as faults
use Rattle.format_toml_nodes.specs.Laying.{IsSizeOf}
use Rattle.format_toml_nodes.specs.Nodes.{AreNodesOf}
use Rattle.format_toml_nodes.specs.declared.node.TomlNode.{TomlNode}
use Rattle.format_toml_tree.specs.Holds.{HoldsTree}
use Rattle.format_toml_tree.specs.Runs.{Gives, IsWithin, Tree as Given, empty}
use Rattle.format_toml_tree.specs.declared.tree.Tree.{Tree}
use Rattle.format_toml_tree.specs.declared.value.Item.{Item}

-- ---- errors

abbrev pub fault_of : TomlError → ℕ
fault_of (faults.Unexpected at expected unclosed) = expected_of expected
fault_of (faults.Invalid at why) = reason_of why
fault_of (faults.NotUtf8 at) = 0
fault_of faults.OutOfMemory = 0

abbrev pub place_of : TomlError → ℕ
place_of (faults.Unexpected at expected unclosed) = at.offset
place_of (faults.Invalid at why) = at.offset
place_of (faults.NotUtf8 at) = at.offset
place_of faults.OutOfMemory = 0

abbrev pub start_or : Location → Option Location → ℕ
start_or at None = at.offset
start_or at (Some start) = start.offset

-- where the innermost string or bracket starts that is not closed; or the offset of the error
abbrev pub unclosed_of : TomlError → ℕ
unclosed_of (faults.Unexpected at expected unclosed) = start_or at unclosed
unclosed_of (faults.Invalid at why) = at.offset
unclosed_of (faults.NotUtf8 at) = at.offset
unclosed_of faults.OutOfMemory = 0

-- the code that reports an error
abbrev pub code_of : TomlError → ℕ
code_of (faults.Unexpected at expected unclosed) = invalid
code_of (faults.Invalid at why) = invalid
code_of (faults.NotUtf8 at) = invalid_utf8
code_of faults.OutOfMemory = no_memory

-- No nodes, and no bytes of theirs.
abbrev pub HasNoSizes : TomlResult → Type 0
HasNoSizes out = (out.nodes ≡ 0) × (out.text ≡ 0)

abbrev pub HasNoError : TomlResult → Type 0
HasNoError out = (out.error_offset ≡ 0) × (out.unclosed_offset ≡ 0) × (out.error ≡ 0)

-- `IsFaultOf code level bytes out`: `out` has the offsets and the number of an error of `bytes`,
-- and `code` reports it. If `bytes` is not UTF-8, that is the error.
pub record IsFaultOf (code level : ℕ) (bytes : List ℕ) (out : TomlResult) : Type 0 where
  pub fault : TomlError
  pub is_code : code_of fault ≡ code
  pub tells : IsErrorOf Global level bytes fault
  pub broken : (IsUtf8 bytes → ⊥) → IsBroken bytes fault
  pub place : out.error_offset ≡ place_of fault
  pub unclosed : out.unclosed_offset ≡ unclosed_of fault
  pub number : out.error ≡ fault_of fault

abbrev pub IsRefusedDocument : ℕ → List ℕ → TomlResult → Type 0
IsRefusedDocument level bytes out = IsFaultOf invalid level bytes out

abbrev pub IsNoText : ℕ → List ℕ → TomlResult → Type 0
IsNoText level bytes out = IsFaultOf invalid_utf8 level bytes out

-- ---- documents

-- The nodes are those of what places hold.
abbrev pub ShowsTree : Tree Global → List ℕ → List TomlNode → Type 0
ShowsTree tree text nodes = (given : Given Global) → HoldsTree tree.slots.items given
    → AreNodesOf given text nodes

-- `WantsTree tree found`: `tree` needs the sizes in `found`.
abbrev pub WantsTree : Tree Global → TomlResult → Type 0
WantsTree tree found = IsSizeOf tree (record { nodes = found.nodes; text = found.text })

-- `ShowsDocument level bytes text nodes`: `bytes` is UTF-8, its lines are TOML, the standard allows
-- all of them, and `nodes` and `text` are the nodes of the tree that they define. Its tables and
-- arrays are nested at most `level` deep.
pub record ShowsDocument (level : ℕ) (bytes text : List ℕ) (nodes : List TomlNode) : Type 0 where
  pub is_text : IsUtf8 bytes
  pub lines : Vec (Item Global) Global
  pub are_lines : DocumentText level lines (chars bytes)
  pub given : Given Global
  pub gives : Gives level (empty, []) 0 lines.items (Ok given)
  pub nested : IsWithin level given
  pub nodes_are : AreNodesOf given text nodes

-- `WantsDocument level bytes found`: `bytes` is UTF-8, and a document that needs the sizes in
-- `found`.
abbrev pub WantsDocument : ℕ → List ℕ → TomlResult → Type 0
WantsDocument level bytes found = IsUtf8 bytes
    × ((tree : Tree Global) × IsDocument Global level bytes tree × WantsTree tree found)
