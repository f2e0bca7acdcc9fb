-- The search for the end of a record in partial input.
use Rattle.std.specs.Prelude.{◌≡◌, ◌++◌, ℕ, List, [], ◌∷◌, get_or}
use Rattle.format_csv_records.specs.Buffers.{IsRecordForGood, NoRecordForGood}
use Rattle.format_csv_records.specs.Early.{IsPrefixOfNone, IsViablePrefix}
use Rattle.format_csv_records.specs.Extents.{IsExtentOf}
use Rattle.format_csv_records.specs.declared.dialect.Dialect.{Dialect}
use Rattle.format_csv_records.specs.declared.extent.RecordExtent.{RecordExtent}
use Rattle.format_csv_records.specs.declared.extent.RecordPlace.{RecordPlace}
use Rattle.format_csv_records.specs.declared.extent.RecordPlace.TheVariants as place
use Rattle.exported.specs.Code.{done, incomplete, invalid}
use Rattle.exported.specs.Csv.{IsRefusedAt, WantsRecord}
use Rattle.exported.specs.Turns.{CallsFrom}
use Rattle.exported.specs.declared.csv.CsvRecordSizes.{CsvRecordSizes}
use Rattle.exported.specs.declared.csv.extent.CsvRecordState.{CsvRecordState}

-- the part of a record that is expected next, from its number
abbrev pub place_at : ℕ → RecordPlace
place_at n = get_or
    (place.Field ∷ place.Plain ∷ place.Quoted ∷ place.Quote ∷ place.Return ∷ []) n place.Done

-- the extent that a state represents
abbrev pub record_extent_of : CsvRecordState → RecordExtent
record_extent_of s = record {
  passed = s.passed;
  text = s.text;
  fields = s.fields;
  place = place_at s.place;
}

-- the state of zeros
abbrev pub nothing : CsvRecordState
nothing = record { passed = 0; text = 0; fields = 0; place = 0 }

-- `TellsRecord d bytes code out state`: the result of a call on `bytes`, by `code`. `done`: for any
-- continuation, `bytes` starts with a record of the sizes in `out`. `incomplete`: this holds for no
-- record, but some continuation completes one. `refused`: no continuation starts with a record, and
-- `out.place` is the first offset at which no record can continue. `state` is a state of `bytes`,
-- for any continuation.
pub record TellsRecord (d : Dialect) (bytes : List ℕ) (code : ℕ) (out : CsvRecordSizes)
    (state : CsvRecordState) : Type 0 where
  pub ends : code ≡ done → WantsRecord (IsRecordForGood d) bytes out
  pub wants : code ≡ incomplete → NoRecordForGood d bytes × IsViablePrefix d bytes
  pub never : code ≡ invalid → IsPrefixOfNone d bytes × IsRefusedAt d bytes out.error_offset
  pub kept : (more : List ℕ) → IsExtentOf d (record_extent_of state) (bytes ++ more)

-- Successive calls that all return `incomplete`.
abbrev pub RecordCalls : Dialect → CsvRecordState → List ℕ → List (List ℕ) → CsvRecordState
    → Type 0
RecordCalls d state bytes pieces last =
    CallsFrom (λ s. IsExtentOf d (record_extent_of s)) (TellsRecord d) state bytes pieces last
