-- The scanner for the end of a record: the bytes passed, and the results.
use Rattle.std.specs.Prelude.{◌≡◌, ◌⊎◌, ◌≤◌, ◌<◌, ◌+◌, ℕ, List, [], ◌∷◌, ◌++◌, length, true}
use Rattle.std.specs.Prelude.{Err, None, Ok, Option, Result, Some}
use Rattle.std.specs.List.{All}
use Rattle.format_csv_records.specs.Buffers.{IsSized, NoRecordForGood, text_of}
use Rattle.format_csv_records.specs.Dialects.{IsFieldText, IsLineEnd, IsPlain, RecordEnds, doubled}
use Rattle.format_csv_records.specs.Early.{IsPrefixOfNone, IsViablePrefix}
use Rattle.format_csv_records.specs.Parts.{DelimitedFields}
use Rattle.format_csv_records.specs.Refused.{IsRefused}
use Rattle.format_csv_records.specs.declared.buffers.RecordSize.{RecordSize}
use Rattle.format_csv_records.specs.declared.dialect.Dialect.{Dialect}
use Rattle.format_csv_records.specs.declared.extent.RecordExtent.{RecordExtent}
use Rattle.format_csv_records.specs.declared.extent.RecordPlace.{RecordPlace}
use Rattle.format_csv_records.specs.declared.extent.RecordPlace.TheVariants as place
use Rattle.format_csv_records.specs.declared.extent.Walked.{Walked}
use Rattle.format_csv_records.specs.declared.read.InvalidRecord.{InvalidRecord}
use Rattle.format_csv_records.specs.declared.read.Reason.{Reason}
use Rattle.format_csv_records.specs.declared.turns.Step.{Step}
use Rattle.format_csv_records.specs.declared.turns.Turn.{Turn}
use Rattle.format_csv_records.specs.declared.turns.Turn.TheVariants.{Ends, Goes, Never}

-- `IsFieldPrefix d at field begun`: in state `at` of the scanner the last field has the encoded
-- bytes
-- `begun`, whose text is `field`. These are empty; plain bytes; an opening quote and encoded bytes;
-- these with a closing quote; the text of the field with a carriage return; or the text with its
-- line ending.
abbrev pub IsFieldPrefix : Dialect → RecordPlace → List ℕ → List ℕ → Type 0
IsFieldPrefix d place.Field field begun = (field ≡ []) × (begun ≡ [])
IsFieldPrefix d place.Plain field begun =
    (begun ≡ field) × All (IsPlain d) field × (0 < length field)
IsFieldPrefix d place.Quoted field begun = begun ≡ d.quote ∷ doubled d.quote field
IsFieldPrefix d place.Quote field begun = begun ≡ d.quote ∷ (doubled d.quote field ++ d.quote ∷ [])
IsFieldPrefix d place.Return field begun = (text : List ℕ) × IsFieldText d field text
    × IsLineEnd d.ends (13 ∷ 10 ∷ []) × (begun ≡ text ++ 13 ∷ [])
IsFieldPrefix d place.Done field begun = (text : List ℕ) × (end : List ℕ) × IsFieldText d field text
    × IsLineEnd d.ends end × (begun ≡ text ++ end)

-- `front` is passed: complete fields with a delimiter after each, and a part of one more. The
-- fields have `text` bytes, and `fields` of them precede the last.
pub record Passed (d : Dialect) (so : List ℕ → List ℕ → Type 0) (text fields : ℕ)
    (front : List ℕ) : Type 0 where
  pub done : List (List ℕ)
  pub before : List ℕ
  pub field : List ℕ
  pub begun : List ℕ
  pub splits : front ≡ before ++ begun
  pub are : DelimitedFields d done before
  pub is : so field begun
  pub count : fields ≡ length done
  pub total : text ≡ length (text_of done) + length field
  pub few : (text ≤ length front) × (fields ≤ length front)

-- The extent is of these bytes, or of some that they begin with.
pub record IsExtentOf (d : Dialect) (extent : RecordExtent) (bytes : List ℕ) : Type 0 where
  pub front : List ℕ
  pub left : List ℕ
  pub splits : bytes ≡ front ++ left
  pub size : length front ≡ extent.passed
  pub passed : Passed d (IsFieldPrefix d extent.place) extent.text extent.fields front

-- The contract of a scan: the size of the record at the start, for any continuation; or `None`, if
-- no record is final and some continuation has one; or the first byte that cannot continue a
-- record.
abbrev pub RecordResult : Dialect → List ℕ → Result (Option RecordSize) InvalidRecord → Type 0
RecordResult d bytes (Ok (Some size)) = IsSized d bytes size × (size.ended ≡ true)
RecordResult d bytes (Ok None) = IsViablePrefix d bytes × NoRecordForGood d bytes
RecordResult d bytes (Err fault) = IsRefused d bytes fault × IsPrefixOfNone d bytes

-- ---- what a call does with the bytes that are new, whatever those are that were passed

-- With these bytes more that is passed which was passed before them.
abbrev pub KeepsPassed : Dialect → RecordPlace → ℕ → ℕ → List ℕ → RecordPlace → ℕ → ℕ → Type 0
KeepsPassed d at text fields taken next more others = (front : List ℕ)
    → Passed d (IsFieldPrefix d at) text fields front
    → Passed d (IsFieldPrefix d next) more others (front ++ taken)

-- After the passed bytes no record continues with byte `b`, for this reason.
abbrev pub IsNever : Dialect → RecordPlace → ℕ → Reason → Type 0
IsNever d at b why = (text fields : ℕ) (front bs : List ℕ)
    → Passed d (IsFieldPrefix d at) text fields front
    → IsRefused d (front ++ b ∷ bs) (record { offset = length front; why = why })

-- the scan stops: the record is complete, or no bytes remain, or no record continues with the next
-- byte
abbrev pub IsStopped : Dialect → RecordPlace → List ℕ → Option Reason → Type 0
IsStopped d at left None = (at ≡ place.Done) ⊎ (left ≡ [])
IsStopped d at left (Some why) = (at ≡ place.Done → ⊥)
    × ((b : ℕ) × (more : List ℕ) × (left ≡ b ∷ more) × IsNever d at b why)

-- The scan passes the longest possible prefix of the bytes; `left` is the rest.
abbrev pub Walks : Dialect → Step → List ℕ → Walked → Type 0
Walks d old fresh new = (taken : List ℕ) × (fresh ≡ taken ++ new.left.now)
    × KeepsPassed d old.place old.text old.fields taken new.at.place new.at.text new.at.fields
    × IsStopped d new.at.place new.left.now new.why
    × (new.at.text + length new.left.now ≤ old.text + length fresh)
    × (new.at.fields + length new.left.now ≤ old.fields + length fresh)

-- the result of an extent, with the reason `why` if no record can continue
abbrev pub ReportsResult : RecordExtent → Option Reason
    → Result (Option RecordSize) InvalidRecord → Type 0
ReportsResult new why (Ok (Some size)) = (why ≡ None) × (new.place ≡ place.Done)
    × (size.fields ≡ new.fields + 1) × (size.text ≡ new.text) × (size.length ≡ new.passed)
    × (size.ended ≡ true)
ReportsResult new why (Ok None) = (why ≡ None) × (new.place ≡ place.Done → ⊥)
ReportsResult new why (Err fault) = (why ≡ Some fault.why) × (fault.offset ≡ new.passed)

-- no more bytes of text, and no more fields, than bytes
abbrev pub IsWithinPassed : RecordExtent → Type 0
IsWithinPassed extent = (extent.text ≤ extent.passed) × (extent.fields ≤ extent.passed)

-- From one extent to the next: some of the new bytes are passed, and the result depends on the new
-- state and the rest. The bytes that were passed before do not matter.
abbrev pub IsLed : Dialect → RecordExtent → List ℕ → RecordExtent
    → Result (Option RecordSize) InvalidRecord → Type 0
IsLed d old fresh new result = (taken : List ℕ) × (left : List ℕ) × (why : Option Reason)
    × (fresh ≡ taken ++ left) × (new.passed ≡ old.passed + length taken)
    × KeepsPassed d old.place old.text old.fields taken new.place new.text new.fields
    × IsStopped d new.place left why × ReportsResult new why result

-- ---- one byte

-- The byte after the complete last field continues the record; or it is not a delimiter, and no
-- record ends with it there.
abbrev pub IsBehind : Dialect → ℕ → Option Step → Type 0
IsBehind d b (Some step) = (step.text ≤ 1) × (step.fields ≤ 1)
    × ((text fields : ℕ) (front : List ℕ) → Passed d (IsFieldText d) text fields front
    → Passed d (IsFieldPrefix d step.place) (text + step.text) (fields + step.fields)
    (front ++ b ∷ []))
IsBehind d b None = (b ≡ d.delimiter → ⊥)
    × ((after rest : List ℕ) → RecordEnds d.ends (b ∷ after) rest → ⊥)

-- The byte continues the record, with this step; or the record has ended; or no record continues
-- with it.
abbrev pub IsTurn : Dialect → RecordPlace → ℕ → Turn → Type 0
IsTurn d at b (Goes step) = (step.text ≤ 1) × (step.fields ≤ 1)
    × ((text fields : ℕ)
    → KeepsPassed d at text fields (b ∷ []) step.place (text + step.text) (fields + step.fields))
IsTurn d at b Ends = at ≡ place.Done
IsTurn d at b (Never why) = (at ≡ place.Done → ⊥) × IsNever d at b why

-- `IsRun d at run n`: `run` has `n` bytes, all of them contents of the field.
abbrev pub IsRun : Dialect → RecordPlace → List ℕ → ℕ → Type 0
IsRun d at run n =
    (length run ≡ n) × ((text fields : ℕ) → KeepsPassed d at text fields run at (text + n) fields)
