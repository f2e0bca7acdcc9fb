-- The specification of `JsonError`: why bytes are not a JSON text.
use Rattle.std.specs.Prelude.{◌≡◌, ◌⊎◌, ◌<◌, ◌≤◌, ℕ, List, Option, Some, None, length, take, ⊤}
use Rattle.std.specs.Str.{IsUtf8, chars}
use Rattle.std.specs.Str.Lossy.{utf8_valid_len}
use Rattle.format_json.specs.declared.fault.JsonError.{JsonError}
use Rattle.format_json.specs.declared.fault.JsonError.TheVariants as faults
use Rattle.format_json.specs.declared.fault.JsonWriteError.{JsonWriteError}
use Rattle.format_json.specs.declared.fault.JsonWriteError.TheVariants as unwritten
use Rattle.format_json_pieces.specs.Begun.{IsViableText}
use Rattle.format_json_pieces.specs.Place.{IsPlace}
use Rattle.format_json_pieces.specs.declared.expected.Expected.TheVariants.{NoDeeper}
use Rattle.format_json_writer.specs.declared.error.WriteError.{WriteError}
use Rattle.format_json_writer.specs.declared.error.WriteError.TheVariants as errors
use Rattle.format_parts.specs.Location.{IsLocation}
use Rattle.format_parts.specs.declared.location.Location.{Location}
use Rattle.text_positions.specs.Position.{IsPosition}

-- `IsLocated bytes at`: the line and column of `at` are those of its offset in `bytes`.
abbrev pub IsLocated : List ℕ → Location → Type 0
IsLocated bytes at = IsLocation bytes at.offset at

-- `IsReadable bytes offset`: `bytes` is UTF-8, or `offset` is less than the length of its longest
-- valid UTF-8 prefix.
abbrev pub IsReadable : List ℕ → ℕ → Type 0
IsReadable bytes offset = IsUtf8 bytes ⊎ (offset < utf8_valid_len bytes)

-- `IsErrorOf level bytes fault`: `fault` is why `bytes` is not a JSON text. A bracket that exceeds
-- `level` is reported as `TooDeep`.
abbrev pub IsErrorOf : ℕ → List ℕ → JsonError → Type 0
IsErrorOf level bytes (faults.Unexpected at expected) =
    (expected ≡ NoDeeper → ⊥) × IsPlace level bytes at.offset expected
    × (at.offset < length bytes) × IsReadable bytes at.offset × IsLocated bytes at
IsErrorOf level bytes (faults.End at expected) =
    (expected ≡ NoDeeper → ⊥) × IsPlace level bytes at.offset expected
    × (length bytes ≤ at.offset) × IsReadable bytes at.offset × IsLocated bytes at
IsErrorOf level bytes (faults.TooDeep at most) =
    (most ≡ level) × IsPlace level bytes at.offset NoDeeper × IsReadable bytes at.offset
    × IsLocated bytes at
IsErrorOf level bytes (faults.NotUtf8 at) =
    (IsUtf8 bytes → ⊥) × (at.offset ≡ utf8_valid_len bytes)
    × IsViableText level (take at.offset bytes)
    × IsPosition (chars (take at.offset bytes)) at.line at.column
IsErrorOf level bytes faults.NoMemory = ⊤

abbrev pub location_of : JsonError → Option Location
location_of (faults.Unexpected at expected) = Some at
location_of (faults.End at expected) = Some at
location_of (faults.TooDeep at level) = Some at
location_of (faults.NotUtf8 at) = Some at
location_of faults.NoMemory = None

abbrev pub write_fault : WriteError → JsonWriteError
write_fault errors.Number = unwritten.NotANumber
write_fault errors.Level = unwritten.TooDeep
write_fault errors.Memory = unwritten.NoMemory
