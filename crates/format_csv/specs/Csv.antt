-- Comma separated values (RFC 4180, section 2): records, in the dialect of commas and double
-- quotes, and documents.
use Rattle.std.specs.Prelude.{ℕ, List, map}
use Rattle.std.specs.declared.vec.Vec.{Vec}
use Rattle.format_csv_records.specs.Commas.{commas_by}
use Rattle.format_csv_records.specs.Dialects as dialects
use Rattle.format_csv_records.specs.declared.dialect.Dialect.{Dialect}
use Rattle.format_csv_records.specs.declared.dialect.LineEnds.{LineEnds}
use Rattle.format_csv_records.specs.declared.dialect.LineEnds.TheVariants as by
use Rattle.format_csv.specs.declared.LineEnd.{LineEnd}
use Rattle.format_csv.specs.declared.LineEnd.TheVariants.{CrLf, Lf}
use Rattle.grammars.specs.Grammar.{Grammar}
use Rattle.grammars.specs.Grammar.Inversion.{Listed}

-- The line ending, as one of a dialect.
abbrev pub ends_as : LineEnd → LineEnds
ends_as CrLf = by.CrLf
ends_as Lf = by.Lf

-- The dialect with commas between fields, double quotes around them, and this line ending.
abbrev pub commas : LineEnd → Dialect
commas ends = commas_by (ends_as ends)

-- The bytes of fields.
abbrev pub bytes_of : {A : Type 0} → List (Vec ℕ A) → List (List ℕ)
bytes_of {A} fields = map (λ (v : Vec ℕ A). v.items) fields

module _ {A : Type 0} (ends : LineEnd) where
  -- The bytes are not empty and start with a record of these fields, followed by `rest`.
  unfoldable pub IsRecord : Grammar ℕ (Vec (Vec ℕ A) A)
  IsRecord bytes fields rest = dialects.IsRecord (commas ends) bytes (bytes_of fields.items) rest

  -- zero or more consecutive records
  abbrev pub AreRecords : Grammar ℕ (Vec (Vec (Vec ℕ A) A) A)
  AreRecords = Listed IsRecord 0
