-- The result of a call of a reader, in terms of the bytes held and read, and of all bytes of the
-- source.
use Rattle.std.specs.Prelude.{◌≡◌, ◌⊎◌, ◌+◌, ◌-◌, ◌^◌, ℕ, List, [], ◌++◌, length, min, ⊤, Bool}
use Rattle.std.specs.Prelude.{Err, None, Ok, Option, Result, Some, false, true}
use Rattle.std.specs.Io.KnownBytes.{Consumes, IsAtEnd}
use Rattle.format_csv_records.specs.Buffers.{IsRecordForGood}
use Rattle.format_csv_records.specs.Dialects.{IsRecord}
use Rattle.format_csv_records.specs.Early.{IsPrefixOfNone}
use Rattle.format_csv_records.specs.Refused.{IsRefused}
use Rattle.format_csv_records.specs.declared.dialect.Dialect.{Dialect}
use Rattle.format_csv_records.specs.declared.read.InvalidRecord.{InvalidRecord}
use Rattle.format_csv_records.specs.Finds.{IsBoundedCapacity, IsOfReader, WantsMore}
use Rattle.format_csv_records.specs.declared.error.ReadError.{ReadError}
use Rattle.format_csv_records.specs.declared.error.ReadError.TheVariants.{Failed, OutOfMemory}
use Rattle.format_csv_records.specs.declared.error.ReadError.TheVariants.{Invalid}
use Rattle.format_csv_records.specs.declared.error.InvalidTable.{InvalidTable}

-- An offset that stops at the greatest number of 64 bits.
abbrev pub offset_after : ℕ → ℕ → ℕ
offset_after start count = min (start + count) (2 ^ 64 - 1)

-- `IsFaultAt start at fault`: `fault` is the error `at` of a record that starts at offset `start`
-- of the table.
abbrev pub IsFaultAt : ℕ → InvalidRecord → InvalidTable → Type 0
IsFaultAt start at fault = (fault.why ≡ at.why) × (fault.offset ≡ offset_after start at.offset)

-- `IsRefusedAt d bytes start fault`: `bytes` starts at offset `start` of the table, and `fault` is
-- the first error there.
abbrev pub IsRefusedAt : Dialect → List ℕ → ℕ → InvalidTable → Type 0
IsRefusedAt d bytes start fault =
    (at : InvalidRecord) × IsRefused d bytes at × IsFaultAt start at fault

-- The result of a call that has `bytes`, its fields, and the rest. `IsOver` is that no more bytes
-- follow. A record, or an error in the bytes, is final or `IsOver` holds. If the reader failed, it
-- was not just interrupted, and more bytes are needed.
abbrev pub IsAnswer : Dialect → List ℕ → Type 0 → ℕ → Result Bool ReadError → List (List ℕ)
    → List ℕ → Type 0
IsAnswer d bytes IsOver start (Ok true) fields rest =
    IsRecord d bytes fields rest × (IsRecordForGood d bytes fields rest ⊎ IsOver)
IsAnswer d bytes IsOver start (Ok false) fields rest =
    (bytes ≡ []) × (rest ≡ []) × (fields ≡ []) × IsOver
IsAnswer d bytes IsOver start (Err (Invalid fault)) fields rest =
    ((at : InvalidRecord) × IsRefused d bytes at × IsFaultAt start at fault
    × (IsPrefixOfNone d bytes ⊎ IsOver)) × (rest ≡ bytes) × (fields ≡ [])
IsAnswer d bytes IsOver start (Err (Failed error)) fields rest =
    IsOfReader (Failed error) × WantsMore d bytes × (rest ≡ bytes) × (fields ≡ [])
IsAnswer d bytes IsOver start (Err OutOfMemory) fields rest = (rest ≡ bytes) × (fields ≡ [])

-- A call reads some bytes, and answers of those that were held and these.
pub record Reads (d : Dialect) (old new : List ℕ) (before after : Option (List ℕ)) (start end : ℕ)
    (size room : ℕ) (result : Result Bool ReadError) (fields : List (List ℕ)) : Type 0 where
  pub read : List ℕ
  pub consumed : Consumes before after read
  pub told : IsAnswer d (old ++ read) (IsAtEnd after) start result fields new
  pub moved : end ≡ offset_after start (length (old ++ read) - length new)
  pub small : IsBoundedCapacity d size room (old ++ read)

-- The result of a call if `bytes` are all bytes: the record at their start, or `false` if there are
-- none, or the offset and the reason of the error.
abbrev pub IsOfAll : Dialect → List ℕ → ℕ → Result Bool ReadError → List (List ℕ) → List ℕ
    → Type 0
IsOfAll d bytes start (Ok true) fields rest = IsRecord d bytes fields rest
IsOfAll d bytes start (Ok false) fields rest = (bytes ≡ []) × (rest ≡ []) × (fields ≡ [])
IsOfAll d bytes start (Err (Invalid fault)) fields rest =
    IsRefusedAt d bytes start fault × (rest ≡ bytes) × (fields ≡ [])
IsOfAll d bytes start (Err (Failed error)) fields rest = (rest ≡ bytes) × (fields ≡ [])
IsOfAll d bytes start (Err OutOfMemory) fields rest = (rest ≡ bytes) × (fields ≡ [])

-- Like `IsOfAll`, for the remaining bytes of the source before and after the call, if they are
-- known.
abbrev pub ReadsOfAll : Dialect → Option (List ℕ) → Option (List ℕ) → ℕ → Result Bool ReadError
    → List (List ℕ) → Type 0
ReadsOfAll d None after start result fields = ⊤
ReadsOfAll d (Some bytes) None start result fields = ⊥
ReadsOfAll d (Some bytes) (Some rest) start result fields = IsOfAll d bytes start result fields rest

-- The result of taking a record from the bytes held, without reading more.
abbrev pub IsTaken : Dialect → List ℕ → ℕ → Result Bool ReadError → List (List ℕ) → List ℕ
    → Type 0
IsTaken d bytes start (Err (Failed error)) fields rest = ⊥
IsTaken d bytes start result fields rest = IsOfAll d bytes start result fields rest
