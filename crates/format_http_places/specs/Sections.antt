-- Field lines without a first line, and the contracts of reading them.
use Rattle.std.specs.Prelude.{◌≡◌, ◌+◌, ◌<◌, ◌≤◌, ℕ, List, [], ◌++◌, length, take}
use Rattle.std.specs.Prelude.{Result, Ok, Err}
use Rattle.format_http.specs.Heads.Bytes.{line_end}
use Rattle.format_http.specs.Heads.Head.{AreFields, Pair}
use Rattle.format_http_places.specs.Places.{AreShown}
use Rattle.format_http_places.specs.Refusals.{IsRefusedBy}
use Rattle.format_http_places.specs.States.{IsIn}
use Rattle.format_http_places.specs.declared.parts.HeadKind.TheVariants as kind
use Rattle.format_http_places.specs.declared.places.Field.{Field}
use Rattle.format_http_places.specs.declared.places.FieldLines.{FieldLines}
use Rattle.format_http_places.specs.declared.read.HeadError.{HeadError}
use Rattle.format_http_places.specs.declared.read.HeadError.TheVariants.{Incomplete, Invalid}
use Rattle.format_http_places.specs.declared.read.HeadError.TheVariants.{TooManyFields}

-- The bytes start with no field lines and empty line.
abbrev pub NoFieldsRead : List ℕ → Type 0
NoFieldsRead bytes = (fields : List Pair) (rest : List ℕ) → AreFields fields bytes rest → ⊥

-- Whatever comes after the bytes, they start with no field lines and empty line.
abbrev pub NoFields : List ℕ → Type 0
NoFields bytes = (fields : List Pair) (more rest : List ℕ) → AreFields fields (bytes ++ more) rest
    → ⊥

-- With more after them the bytes are field lines and an empty line.
abbrev pub BeginsFields : List ℕ → Type 0
BeginsFields bytes = (fields : List Pair) × (more : List ℕ) × AreFields fields (bytes ++ more) []

-- The input starts with field lines and an empty line. Each field is at its position in its own
-- line.
pub record ShowsLines (input : List ℕ) (lines : FieldLines) (places : List Field) : Type 0 where
  pub fields : List Pair
  pub rest : List ℕ
  pub are_fields : AreFields fields input rest
  pub count : lines.fields ≡ length fields
  pub are_shown : AreShown input input places fields (line_end ++ rest)
  pub ends : lines.length + length rest ≡ length input

-- The input starts with `count` field lines and an empty line.
pub record AreWanted (input : List ℕ) (count : ℕ) : Type 0 where
  pub fields : List Pair
  pub rest : List ℕ
  pub are_fields : AreFields fields input rest
  pub counts : count ≡ length fields

-- The contract of reading bytes: field lines, whose fields are in the first entries; more field
-- lines than entries; the offset at which none continue; or incomplete, if some longer input starts
-- with field lines and an empty line, and these bytes do not.
abbrev pub ReadsFieldLines : List ℕ → Result FieldLines HeadError → List Field → Type 0
ReadsFieldLines bytes (Ok lines) fields = ShowsLines bytes lines (take lines.fields fields)
ReadsFieldLines bytes (Err (TooManyFields count)) fields =
    AreWanted bytes count × (length fields < count)
ReadsFieldLines bytes (Err (Invalid it)) fields =
    IsRefusedBy BeginsFields NoFields bytes it.place
    × IsIn kind.Trailers (take it.place bytes) it.part
ReadsFieldLines bytes (Err Incomplete) fields = BeginsFields bytes × NoFieldsRead bytes

-- The bytes start with field lines and an empty line, and the entries hold as many of the fields as
-- there is room for.
abbrev pub ReadsLines : List ℕ → FieldLines → List Field → Type 0
ReadsLines bytes lines fields =
    (lines.fields ≤ length fields → ShowsLines bytes lines (take lines.fields fields))
    × AreWanted bytes lines.fields
