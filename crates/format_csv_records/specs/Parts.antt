-- The grammars of the parts of a record reader.
use Rattle.std.specs.Prelude.{◌≡◌, ◌⊎◌, ◌≤◌, ℕ, List, [], ◌∷◌, ◌++◌, length, take, drop}
use Rattle.std.specs.Prelude.{⊤}
use Rattle.std.specs.List.{All}
use Rattle.format_csv_records.specs.Apart.{IsBreak}
use Rattle.format_csv_records.specs.Dialects.{IsFieldText, IsLineEnd, IsPlain, RecordEnds, doubled}
use Rattle.format_csv_records.specs.declared.dialect.Dialect.{Dialect}
use Rattle.format_csv_records.specs.declared.dialect.LineEnds.{LineEnds}
use Rattle.format_csv_records.specs.declared.read.Reason.{Reason}
use Rattle.format_csv_records.specs.declared.read.Reason.TheVariants.{QuoteInField}
use Rattle.format_csv_records.specs.declared.read.Reason.TheVariants.{ByteBehindQuote}
use Rattle.format_csv_records.specs.declared.read.Reason.TheVariants.{OpenQuote, WrongLineEnd}

-- There is no byte, or the first is one of these.
abbrev pub FirstIfAny : (ℕ → Type 0) → List ℕ → Type 0
FirstIfAny these [] = ⊤
FirstIfAny these (b ∷ bs) = these b

-- There is no byte, or the first is none of these.
abbrev pub NotFirst : (ℕ → Type 0) → List ℕ → Type 0
NotFirst these bytes = FirstIfAny (λ b. these b → ⊥) bytes

-- There is a first byte, and it is one of these.
abbrev pub StartsWith : (ℕ → Type 0) → List ℕ → Type 0
StartsWith these [] = ⊥
StartsWith these (b ∷ bs) = these b

-- the longest prefix of bytes that satisfy `these` has length `n`
abbrev pub LongestPrefixLength : (ℕ → Type 0) → List ℕ → ℕ → Type 0
LongestPrefixLength these bytes n =
    (n ≤ length bytes) × All these (take n bytes) × NotFirst these (drop n bytes)

-- no quote
abbrev pub IsNotQuote : ℕ → ℕ → Type 0
IsNotQuote quote b = b ≡ quote → ⊥

-- `bytes` starts with the encoding of `field` in quotes and a closing quote, followed by `rest`,
-- which does not start with a quote
abbrev pub ClosedQuotes : ℕ → List ℕ → List ℕ → List ℕ → Type 0
ClosedQuotes quote bytes field rest =
    (bytes ≡ doubled quote field ++ (quote ∷ rest)) × NotFirst (λ b. b ≡ quote) rest

-- the closing quote is not there
abbrev pub UnclosedQuotes : ℕ → List ℕ → Type 0
UnclosedQuotes quote bytes = (done : List ℕ) × (run : List ℕ) × (bytes ≡ doubled quote done ++ run)
    × All (IsNotQuote quote) run

-- the bytes start with a field of maximal length
abbrev pub StartsWithField : Dialect → List ℕ → List ℕ → List ℕ → Type 0
StartsWithField d bytes field rest =
    ((here : List ℕ) × (bytes ≡ d.quote ∷ here) × ClosedQuotes d.quote here field rest)
    ⊎ ((bytes ≡ field ++ rest) × All (IsPlain d) field × NotFirst (IsPlain d) rest
    × NotFirst (λ b. b ≡ d.quote) bytes)

-- the bytes start with a quote that is never closed
abbrev pub StartsWithOpenQuote : Dialect → List ℕ → Type 0
StartsWithOpenQuote d bytes =
    (here : List ℕ) × (bytes ≡ d.quote ∷ here) × UnclosedQuotes d.quote here

-- fields, with a delimiter after each
unfoldable pub DelimitedFields : Dialect → List (List ℕ) → List ℕ → Type 0
DelimitedFields d [] before = before ≡ []
DelimitedFields d (field ∷ fields) before =
    (text : List ℕ) × (more : List ℕ) × IsFieldText d field text
    × (before ≡ text ++ (d.delimiter ∷ more)) × DelimitedFields d fields more

-- no record ends here: `begun` bytes of a line ending match, and the next does not
abbrev pub EndsNowhere : LineEnds → List ℕ → ℕ → Type 0
EndsNowhere ends [] begun = ⊥
EndsNowhere ends (b ∷ bs) begun =
    ((begun ≡ 0) × ((after : List ℕ) (rest : List ℕ) → RecordEnds ends (b ∷ after) rest → ⊥))
    ⊎ ((begun ≡ 1) × (b ≡ 13) × IsLineEnd ends (13 ∷ 10 ∷ []) × NotFirst (λ c. c ≡ 10) bs)

-- the reason why a record neither ends nor continues with the first byte
abbrev pub NoEndReason : ℕ → List ℕ → Reason → Type 0
NoEndReason quote bytes QuoteInField = StartsWith (λ b. b ≡ quote) bytes
NoEndReason quote bytes WrongLineEnd = StartsWith IsBreak bytes
NoEndReason quote bytes ByteBehindQuote = StartsWith (λ b. (b ≡ quote → ⊥) × (IsBreak b → ⊥)) bytes
NoEndReason quote bytes OpenQuote = ⊥

-- The bytes do not start with a UTF-8 byte order mark.
abbrev pub NoMark : List ℕ → Type 0
NoMark bytes = (rest : List ℕ) → bytes ≡ 239 ∷ 187 ∷ 191 ∷ rest → ⊥
