-- Where and why bytes begin with no record.
use Rattle.std.specs.Prelude.{◌≡◌, ◌⊎◌, ℕ, List, [], ◌∷◌, ◌++◌, length, ⊤, Bool, true, false}
use Rattle.std.specs.Prelude.{Err, Ok, Result}
use Rattle.format_csv_records.specs.Apart.{IsBreak}
use Rattle.format_csv_records.specs.Dialects.{IsLineEnd, IsPlain, IsRecord}
use Rattle.format_csv_records.specs.Parts.{StartsWith}
use Rattle.format_csv_records.specs.declared.dialect.Dialect.{Dialect}
use Rattle.format_csv_records.specs.declared.read.Reason.{Reason}
use Rattle.format_csv_records.specs.declared.read.Reason.TheVariants.{QuoteInField}
use Rattle.format_csv_records.specs.declared.read.Reason.TheVariants.{ByteBehindQuote}
use Rattle.format_csv_records.specs.declared.read.Reason.TheVariants.{OpenQuote, WrongLineEnd}
use Rattle.format_csv_records.specs.declared.read.InvalidRecord.{InvalidRecord}
use Rattle.format_csv_records.specs.declared.read.RecordError.{RecordError}
use Rattle.format_csv_records.specs.declared.read.RecordError.TheVariants.{OutOfMemory, Invalid}

-- Each line ending of the dialect makes `before` a record: it ends with a complete field, without a
-- part of a line ending.
abbrev pub EndsAField : Dialect → List ℕ → Type 0
EndsAField d before = (end : List ℕ) → IsLineEnd d.ends end
    → (fields : List (List ℕ)) × IsRecord d (before ++ end) fields []

-- `LacksForRecord d why before more back`: `more` would make `before` a record, but `back` starts
-- with a quote or a plain byte after a field; is empty, if a quote is open; starts with a carriage
-- return or line feed that is not a line ending; or does not have a line feed after a carriage
-- return.
abbrev pub LacksForRecord : Dialect → Reason → List ℕ → List ℕ → List ℕ → Type 0
LacksForRecord d QuoteInField before more back =
    IsLineEnd d.ends more × StartsWith (λ b. b ≡ d.quote) back × EndsAField d before
LacksForRecord d ByteBehindQuote before more back =
    IsLineEnd d.ends more × StartsWith (IsPlain d) back × EndsAField d before
LacksForRecord d OpenQuote before more back = (more ≡ d.quote ∷ []) × (back ≡ [])
LacksForRecord d WrongLineEnd before more back = (IsLineEnd d.ends more × StartsWith IsBreak back)
    ⊎ ((more ≡ 10 ∷ []) × ((front : List ℕ) × (before ≡ front ++ 13 ∷ [])))

-- No continuation of `before` and the next byte starts with a record; or there is no next byte, and
-- `before` does not start with a record.
abbrev pub NoRecordWith : Dialect → List ℕ → List ℕ → Type 0
NoRecordWith d before [] =
    (fields : List (List ℕ)) (rest : List ℕ) → IsRecord d before fields rest → ⊥
NoRecordWith d before (b ∷ bs) = (after : List ℕ) (fields : List (List ℕ)) (rest : List ℕ)
    → IsRecord d (before ++ (b ∷ after)) fields rest → ⊥

-- `fault.offset` is the first offset at which no record can continue: the bytes before it are a
-- prefix of a record, and with the next byte they are not.
abbrev pub IsRefused : Dialect → List ℕ → InvalidRecord → Type 0
IsRefused d bytes fault = (before : List ℕ) × (back : List ℕ) × (more : List ℕ)
    × (fields : List (List ℕ)) × (bytes ≡ before ++ back) × (length before ≡ fault.offset)
    × IsRecord d (before ++ more) fields [] × LacksForRecord d fault.why before more back
    × NoRecordWith d before back

-- The facts that an error states about the bytes; out of memory states nothing.
abbrev pub IsNoRecord : Dialect → List ℕ → RecordError → Type 0
IsNoRecord d bytes (Invalid fault) = IsRefused d bytes fault
IsNoRecord d bytes OutOfMemory = ⊤

-- The contract of a call with `bytes`, its fields and the rest: the record at the start; or that
-- there are no bytes; or an error that leaves all bytes.
abbrev pub ReadsRecord : Dialect → List ℕ → Result Bool RecordError → List (List ℕ) → List ℕ
    → Type 0
ReadsRecord d bytes (Ok true) fields rest = IsRecord d bytes fields rest
ReadsRecord d bytes (Ok false) fields rest = (bytes ≡ []) × (rest ≡ []) × (fields ≡ [])
ReadsRecord d bytes (Err error) fields rest =
    IsNoRecord d bytes error × (rest ≡ bytes) × (fields ≡ [])
