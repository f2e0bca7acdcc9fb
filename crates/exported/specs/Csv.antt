-- Records of comma separated values, and where their fields are written.
use Rattle.std.specs.Prelude.{◌≡◌, ◌⊎◌, ◌+◌, ◌<◌, ℕ, List, [], length, zero, suc}
use Rattle.format_csv_records.specs.Buffers.{places_of, text_of}
use Rattle.format_csv_records.specs.Dialects.{IsRecord}
use Rattle.format_csv_records.specs.Refused.{IsRefused}
use Rattle.format_csv_records.specs.declared.dialect.Dialect.{Dialect}
use Rattle.format_csv_records.specs.declared.dialect.LineEnds.{LineEnds}
use Rattle.format_csv_records.specs.declared.dialect.LineEnds.TheVariants.{CrLf, Either, Lf}
use Rattle.format_csv_records.specs.declared.read.Reason.{Reason}
use Rattle.exported.specs.Span.{span_of}
use Rattle.exported.specs.declared.csv.CsvRecordSizes.{CsvRecordSizes}
use Rattle.exported.specs.declared.csv.dialect.CsvDialect.{CsvDialect}
use Rattle.exported.specs.declared.span.Span.{Span}

-- the line endings of a number
abbrev pub ends_of : ℕ → LineEnds
ends_of zero = CrLf
ends_of (suc zero) = Lf
ends_of (suc (suc n)) = Either

-- `IsDialect given d`: `d` is the dialect that `given` describes.
abbrev pub IsDialect : CsvDialect → Dialect → Type 0
IsDialect given d = (given.line_ends < 3) × (d.delimiter ≡ given.delimiter)
    × (d.quote ≡ given.quote) × (d.ends ≡ ends_of given.line_ends)

-- There is such a dialect: the delimiter, the quote, the carriage return and the line feed are four
-- bytes, and the line ending is known.
abbrev pub HasDialect : CsvDialect → Type 0
HasDialect given = (d : Dialect) × IsDialect given d

-- No fields, no bytes of theirs, and no length.
abbrev pub HasNoSizes : CsvRecordSizes → Type 0
HasNoSizes found = (found.fields ≡ 0) × (found.text ≡ 0) × (found.length ≡ 0)

-- The bytes begin with no record.
abbrev pub NoRecord : Dialect → List ℕ → Type 0
NoRecord d input = (fields : List (List ℕ)) (rest : List ℕ) → IsRecord d input fields rest → ⊥

-- `IsRefusedAt d input place`: `input` is empty, or `place` is the first offset at which it cannot
-- continue a record.
abbrev pub IsRefusedAt : Dialect → List ℕ → ℕ → Type 0
IsRefusedAt d input place = ((input ≡ []) × (place ≡ 0))
    ⊎ ((why : Reason) × IsRefused d input (record { offset = place; why = why }))

-- The input begins with a record, which has that many fields, bytes of these, and bytes.
pub record CountsRecord (begins : List ℕ → List (List ℕ) → List ℕ → Type 0) (input : List ℕ)
    (found : CsvRecordSizes) (fields : List (List ℕ)) : Type 0 where
  pub rest : List ℕ
  pub is_record : begins input fields rest
  pub count : found.fields ≡ length fields
  pub bytes : found.text ≡ length (text_of fields)
  pub ends : found.length + length rest ≡ length input

-- `ShowsRecord begins input found text places`: `input` begins with a record with the counts of
-- `found`, `text` is the concatenation of its fields, and `places` are their spans in `text`, in
-- order.
abbrev pub ShowsRecord : (List ℕ → List (List ℕ) → List ℕ → Type 0) → List ℕ → CsvRecordSizes
    → List ℕ → List Span → Type 0
ShowsRecord begins input found text places =
    (fields : List (List ℕ)) × CountsRecord begins input found fields × (text ≡ text_of fields)
    × (places ≡ places_of span_of 0 fields)

-- `WantsRecord begins input found`: `input` begins with a record that needs the sizes in `found`.
abbrev pub WantsRecord : (List ℕ → List (List ℕ) → List ℕ → Type 0) → List ℕ → CsvRecordSizes
    → Type 0
WantsRecord begins input found =
    (fields : List (List ℕ)) × CountsRecord begins input found fields
