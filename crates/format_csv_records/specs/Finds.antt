-- The result of the search for a record in bytes that arrive in chunks.
use Rattle.std.specs.Prelude.{◌≡◌, ◌≢◌, ◌⊎◌, ◌≤◌, ◌*◌, ◌++◌, ℕ, List, length, ⊤}
use Rattle.std.specs.IoError.{error_kind}
use Rattle.std.specs.declared.io.ErrorKind.TheVariants.{Interrupted}
use Rattle.format_csv_records.specs.Buffers.{IsRecordForGood, NoRecordForGood}
use Rattle.format_csv_records.specs.Early.{IsPrefixOfNone, IsViablePrefix}
use Rattle.format_csv_records.specs.Refused.{IsRefused}
use Rattle.format_csv_records.specs.declared.dialect.Dialect.{Dialect}
use Rattle.format_csv_records.specs.declared.error.ReadError.{ReadError}
use Rattle.format_csv_records.specs.declared.error.ReadError.TheVariants.{Failed, OutOfMemory}
use Rattle.format_csv_records.specs.declared.error.ReadError.TheVariants.{Invalid}
use Rattle.format_csv_records.specs.declared.finds.Found.{Found}
use Rattle.format_csv_records.specs.declared.finds.Found.TheVariants.{Enough, Never}

-- An error that does not depend on the bytes: the reader failed, or memory allocation failed. An
-- interrupted read is no failure, since it is retried.
abbrev pub IsOfReader : ReadError → Type 0
IsOfReader (Invalid fault) = ⊥
IsOfReader (Failed error) = error_kind error ≢ Interrupted
IsOfReader OutOfMemory = ⊤

-- The bytes start with a record, for any continuation.
abbrev pub StartsForGood : Dialect → List ℕ → Type 0
StartsForGood d bytes =
    (fields : List (List ℕ)) × (rest : List ℕ) × IsRecordForGood d bytes fields rest

-- More bytes are needed: no record is final, and with some more bytes one is.
abbrev pub WantsMore : Dialect → List ℕ → Type 0
WantsMore d bytes = IsViablePrefix d bytes × NoRecordForGood d bytes

-- `IsFound d bytes IsOver found`: `Enough` if `bytes` starts with a record for any continuation, or
-- `IsOver` (no more bytes follow); `Never` if no continuation starts with a record.
abbrev pub IsFound : Dialect → List ℕ → Type 0 → Found → Type 0
IsFound d bytes IsOver Enough = StartsForGood d bytes ⊎ IsOver
IsFound d bytes IsOver (Never fault) = IsRefused d bytes fault × IsPrefixOfNone d bytes

-- A buffer has room for as many bytes as before, for 8,192 at most, or for four times as many at
-- most as some of the bytes, which begin with no record that has ended.
abbrev pub IsBoundedCapacity : Dialect → ℕ → ℕ → List ℕ → Type 0
IsBoundedCapacity d old new bytes = (new ≡ old) ⊎ ((new ≤ 8192)
    ⊎ ((begun : List ℕ) × (rest : List ℕ) × (bytes ≡ begun ++ rest) × NoRecordForGood d begun
    × (new ≤ 4 * length begun)))
