-- A UTF-8 byte order mark at the start of a table.
use Rattle.std.specs.Prelude.{◌≡◌, ◌⊎◌, ◌≤◌, ℕ, List, ◌∷◌, ◌++◌, length, Bool, true}
use Rattle.std.specs.Prelude.{Err, Ok, Option, Result, false}
use Rattle.std.specs.Io.KnownBytes.{Consumes, IsAtEnd}
use Rattle.format_csv_records.specs.Parts.{NoMark}
use Rattle.format_csv_records.specs.Finds.{IsOfReader}
use Rattle.format_csv_records.specs.Results.{offset_after}
use Rattle.format_csv_records.specs.declared.error.ReadError.{ReadError}

-- The result of skipping a byte order mark, and the rest: the bytes after a mark; all bytes, if
-- they do not start with a mark for any continuation or no more bytes follow; or all bytes, if the
-- reader or an allocation failed.
abbrev pub IsMarkRead : List ℕ → Type 0 → Result Bool ReadError → List ℕ → Type 0
IsMarkRead bytes IsOver (Ok true) rest = bytes ≡ 239 ∷ 187 ∷ 191 ∷ rest
IsMarkRead bytes IsOver (Ok false) rest =
    NoMark bytes × ((3 ≤ length bytes) ⊎ IsOver) × (rest ≡ bytes)
IsMarkRead bytes IsOver (Err error) rest = IsOfReader error × (rest ≡ bytes)

-- how many bytes are passed
abbrev pub mark_size : Result Bool ReadError → ℕ
mark_size (Ok true) = 3
mark_size (Ok false) = 0
mark_size (Err error) = 0

-- A call reads some bytes, and answers of those that were held and these.
pub record ReadsMark (old new : List ℕ) (before after : Option (List ℕ)) (start end : ℕ)
    (result : Result Bool ReadError) : Type 0 where
  pub read : List ℕ
  pub consumed : Consumes before after read
  pub told : IsMarkRead (old ++ read) (IsAtEnd after) result new
  pub moved : end ≡ offset_after start (mark_size result)
