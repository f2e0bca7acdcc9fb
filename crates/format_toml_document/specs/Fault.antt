-- The definition of a document, and of the `TomlError` of a text.
use Rattle.std.specs.Prelude.{◌≡◌, ◌<◌, ◌^◌, ◌++◌, ℕ, List, [], ◌∷◌, Option, Some, None, Ok, Err}
use Rattle.std.specs.Prelude.{length, take, ⊤}
use Rattle.std.specs.Str.{IsUtf8, chars}
use Rattle.std.specs.Str.Lossy.{utf8_valid_len}
use Rattle.std.specs.declared.vec.Vec.{Vec}
use Rattle.format_parts.specs.declared.location.Location.{Location}
use Rattle.format_toml.specs.Starts.{StatementStarts}
use Rattle.format_toml.specs.Toml.{DocumentText}
use Rattle.format_toml_document.specs.declared.fault.TomlError.{TomlError}
use Rattle.format_toml_document.specs.declared.fault.TomlError.TheVariants as faults
use Rattle.format_toml_errors.specs.Stop.{StopsAt}
use Rattle.format_toml_errors.specs.Unclosed.{IsUnclosed}
use Rattle.format_toml_tree.specs.Holds.{HoldsTree}
use Rattle.format_toml_tree.specs.Runs.{Gives, IsWithin, Tree as Given, empty}
use Rattle.format_toml_tree.specs.declared.build.TreeError.{TreeError}
use Rattle.format_toml_tree.specs.declared.build.TreeError.TheVariants as built
use Rattle.format_toml_tree.specs.declared.tree.Tree.{Tree}
use Rattle.format_toml_tree.specs.declared.value.Item.{Item}
use Rattle.text_positions.specs.Position.{IsPosition}

-- `IsAfter text rest at`: `rest` is a suffix of `text` after UTF-8, and `at` has the offset, the
-- line and the column of its start.
abbrev pub IsAfter : List ℕ → List ℕ → Location → Type 0
IsAfter text rest at =
    (before : List ℕ) × (text ≡ before ++ rest) × IsUtf8 before × (at.offset ≡ length before)
    × IsPosition (chars before) at.line at.column

abbrev pub location_of : TomlError → Option Location
location_of (faults.Unexpected at expected unclosed) = Some at
location_of (faults.Invalid at why) = Some at
location_of (faults.NotUtf8 at) = Some at
location_of faults.OutOfMemory = None

-- The bytes are no UTF-8, and the place is the end of the longest front that is.
abbrev pub IsBroken : List ℕ → TomlError → Type 0
IsBroken bytes (faults.NotUtf8 at) =
    (IsUtf8 bytes → ⊥) × (at.offset ≡ utf8_valid_len bytes)
    × IsPosition (chars (take (utf8_valid_len bytes) bytes)) at.line at.column
IsBroken bytes other = ⊥

-- `IsOpening text rest unclosed`: the innermost string, array or inline table that is not closed
-- before `rest` starts there; or all are closed.
abbrev pub IsOpening : List ℕ → List ℕ → Option Location → Type 0
IsOpening text rest (Some at) =
    (start : List ℕ) × IsUnclosed (chars text) (chars rest) (Some (chars start))
    × IsAfter text start at
IsOpening text rest None = IsUnclosed (chars text) (chars rest) None

-- `NoneBegins A level front rest`: no document of the level begins with `front` and the first
-- character of `rest`; or `rest` is empty.
abbrev pub NoneBegins : Type 0 → ℕ → List ℕ → List ℕ → Type 0
NoneBegins A level front [] = ⊤
NoneBegins A level front (c ∷ rest) =
    (more : List ℕ) (lines : Vec (Item A) A) → DocumentText level lines (front ++ c ∷ more)
    → ⊥

-- `OneBegins A level front`: some document of the level begins with `front`.
abbrev pub OneBegins : Type 0 → ℕ → List ℕ → Type 0
OneBegins A level front =
    (more : List ℕ) × (lines : Vec (Item A) A) × DocumentText level lines (front ++ more)

-- The first character with which no document of the level continues, or the end of the text if all
-- are a prefix of one; what is expected there, and what is not closed. No document begins with the
-- text before it and this character. Some document begins with the text before it, if this has
-- fewer than 2^58 characters, as strings and lists have a greatest length.
abbrev pub IsUnexpected : Type 0 → ℕ → List ℕ → TomlError → Type 0
IsUnexpected A level text (faults.Unexpected at expected unclosed) =
    (rest : List ℕ) × StopsAt level (chars text) (chars rest) expected × IsAfter text rest at
    × IsOpening text rest unclosed
    × ((front : List ℕ) × (chars text ≡ front ++ chars rest)
    × NoneBegins A level front (chars rest)
    × (length front < 2 ^ 58 → OneBegins A level front))
IsUnexpected A level text faults.OutOfMemory = ⊤
IsUnexpected A level text other = ⊥

module _ (A : Type 0) (level : ℕ) (text : List ℕ) where
  -- The text is lines of these statements, which give a tree, and places hold it. Its tables and
  -- arrays are nested at most `level` deep.
  abbrev pub IsDocument : Tree A → Type 0
  IsDocument tree =
      (lines : Vec (Item A) A) × DocumentText level lines (chars text)
      × ((given : Given A) × Gives level (empty, []) 0 lines.items (Ok given)
      × HoldsTree tree.slots.items given × IsWithin level given)

  -- The rejection of a statement, at the position where its line starts.
  abbrev pub IsRefusal : TreeError → TomlError → Type 0
  IsRefusal fault (faults.Invalid at why) =
      (n : ℕ) × (fault ≡ built.Invalid n why) × (rest : List ℕ)
      × StatementStarts A level n (chars text) (chars rest) × IsAfter text rest at
  IsRefusal fault faults.OutOfMemory = ⊤
  IsRefusal fault other = ⊥

  -- Why a text is not a document. It is not lines: the first character with which no document
  -- continues, also after a line that the standard rejects. Or it is lines: the first that the
  -- standard rejects, and why. Or it is not UTF-8: its longest prefix that is.
  abbrev pub IsErrorOf : TomlError → Type 0
  IsErrorOf (faults.Unexpected at expected unclosed) =
      ((lines : Vec (Item A) A) → DocumentText level lines (chars text) → ⊥)
      × IsUnexpected A level text (faults.Unexpected at expected unclosed)
  IsErrorOf (faults.Invalid at why) =
      (lines : Vec (Item A) A) × DocumentText level lines (chars text)
      × ((n : ℕ) × Gives level (empty, []) 0 lines.items (Err (n, why))
      × ((rest : List ℕ) × StatementStarts A level n (chars text) (chars rest)
      × IsAfter text rest at))
  IsErrorOf (faults.NotUtf8 at) = IsBroken text (faults.NotUtf8 at)
  IsErrorOf faults.OutOfMemory = ⊤
