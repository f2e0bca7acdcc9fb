-- Comma separated values by a dialect (RFC 4180, section 2): the encodings of fields, and the
-- grammar of records.
use Rattle.std.specs.Prelude.{◌≡◌, ◌⊎◌, ◌<◌, ◌==◌, ℕ, List, [], ◌∷◌, ◌++◌, length}
use Rattle.std.specs.Prelude.{if◌then◌else◌}
use Rattle.std.specs.List.{All}
use Rattle.format_csv_records.specs.declared.dialect.LineEnds.{LineEnds}
use Rattle.format_csv_records.specs.declared.dialect.LineEnds.TheVariants.{CrLf, Lf, Either}
use Rattle.format_csv_records.specs.declared.dialect.Dialect.{Dialect}

-- A byte of a field without quotes: no quote, delimiter, carriage return or line feed.
abbrev pub IsPlain : Dialect → ℕ → Type 0
IsPlain d b = (b ≡ d.quote → ⊥) × ((b ≡ d.delimiter → ⊥) × ((b ≡ 13 → ⊥) × (b ≡ 10 → ⊥)))

-- The encoding between the quotes of a field: each quote twice, every other byte once.
unfoldable pub doubled : ℕ → List ℕ → List ℕ
doubled quote [] = []
doubled quote (b ∷ bs) =
    if b == quote then quote ∷ quote ∷ doubled quote bs else b ∷ doubled quote bs

-- The encodings of a field: in quotes, or unchanged if all its bytes are plain.
abbrev pub IsFieldText : Dialect → List ℕ → List ℕ → Type 0
IsFieldText d field text =
    (text ≡ d.quote ∷ (doubled d.quote field ++ d.quote ∷ []))
    ⊎ ((text ≡ field) × All (IsPlain d) field)

-- A line ending of a record.
abbrev pub IsLineEnd : LineEnds → List ℕ → Type 0
IsLineEnd CrLf end = end ≡ 13 ∷ 10 ∷ []
IsLineEnd Lf end = end ≡ 10 ∷ []
IsLineEnd Either end = (end ≡ 13 ∷ 10 ∷ []) ⊎ (end ≡ 10 ∷ [])

-- A record ends here: at a line ending followed by `rest`, or at the end of the bytes.
abbrev pub RecordEnds : LineEnds → List ℕ → List ℕ → Type 0
RecordEnds ends bytes rest = ((end : List ℕ) × IsLineEnd ends end × (bytes ≡ end ++ rest))
    ⊎ ((bytes ≡ []) × (rest ≡ []))

-- The bytes begin with these fields, one or more, with delimiters between them, and the record ends
-- after the last.
unfoldable pub AreFields : Dialect → List ℕ → List (List ℕ) → List ℕ → Type 0
AreFields d bytes [] rest = ⊥
AreFields d bytes (field ∷ []) rest = (text : List ℕ) × (behind : List ℕ) × IsFieldText d field text
    × (bytes ≡ text ++ behind) × RecordEnds d.ends behind rest
AreFields d bytes (field ∷ (next ∷ fields)) rest = (text : List ℕ) × (behind : List ℕ)
    × IsFieldText d field text × (bytes ≡ text ++ (d.delimiter ∷ behind))
    × AreFields d behind (next ∷ fields) rest

-- The bytes are not empty and start with a record of these fields, followed by `rest`.
abbrev pub IsRecord : Dialect → List ℕ → List (List ℕ) → List ℕ → Type 0
IsRecord d bytes fields rest = (0 < length bytes) × AreFields d bytes fields rest
