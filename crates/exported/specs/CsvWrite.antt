-- Records of comma-separated values that are written.
use Rattle.std.specs.Prelude.{◌≡◌, ℕ, List, [], ◌∷◌, ◌++◌}
use Rattle.format_csv_records.specs.Written.{IsLastWritten, ReadsBack, WrittenFields, bytes_of}
use Rattle.format_csv_records.specs.declared.dialect.Dialect.{Dialect}
use Rattle.format_csv_records.specs.declared.dialect.LineEnds.{LineEnds}
use Rattle.format_csv_records.specs.declared.dialect.LineEnds.TheVariants.{CrLf, Either, Lf}
use Rattle.exported.specs.Output.{Fills, IsTooLong, slices_of}
use Rattle.exported.specs.declared.output.Bytes.{Bytes}

-- the fields that the caller passes
abbrev pub contents : List Bytes → List (List ℕ)
contents fields = bytes_of (slices_of fields)

-- the line ending that is written
abbrev pub line_end : LineEnds → List ℕ
line_end CrLf = 13 ∷ 10 ∷ []
line_end Lf = 10 ∷ []
line_end Either = 13 ∷ 10 ∷ []

-- `IsLine d fields text`: `text` is the record that is written for these fields, with a delimiter
-- after each but the last, and the line ending. There is one such text.
pub record IsLine (d : Dialect) (fields : List (List ℕ)) (text : List ℕ) : Type 0 where
  pub others : List (List ℕ)
  pub last : List ℕ
  pub before : List ℕ
  pub end : List ℕ
  pub all : fields ≡ others ++ last ∷ []
  pub wrote : WrittenFields d others before
  pub is_last : IsLastWritten d others last end
  pub is_text : text ≡ before ++ (end ++ line_end d.ends)

-- `ShowsLine d fields old new size`: the record is written at the start of a buffer, and reads back
-- as the fields, regardless of what follows.
abbrev pub ShowsLine : Dialect → List (List ℕ) → List ℕ → List ℕ → ℕ → Type 0
ShowsLine d fields old new size =
    (text : List ℕ) × IsLine d fields text × ReadsBack d fields [] text × Fills text old new size

-- `IsShort d fields old size`: the record does not fit into a buffer, and `size` is its length.
abbrev pub IsShort : Dialect → List (List ℕ) → List ℕ → ℕ → Type 0
IsShort d fields old size = (text : List ℕ) × IsLine d fields text × IsTooLong text old size
