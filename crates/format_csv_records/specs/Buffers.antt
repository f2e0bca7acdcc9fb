-- Records whose fields are written into two buffers: their bytes, and the places of these.
use Rattle.std.specs.Prelude.{◌≡◌, ◌≤◌, ◌<◌, ◌+◌, ℕ, List, [], ◌∷◌, ◌++◌, drop, length, take}
use Rattle.std.specs.Prelude.{MatchBool, Option, Some, None, Result, Ok, Err}
use Rattle.std.specs.List.{flat_map}
use Rattle.format_csv_records.specs.Dialects.{AreFields, IsRecord}
use Rattle.format_csv_records.specs.Refused.{IsRefused}
use Rattle.format_csv_records.specs.declared.buffers.RecordSize.{RecordSize}
use Rattle.format_csv_records.specs.declared.dialect.Dialect.{Dialect}
use Rattle.format_csv_records.specs.declared.read.InvalidRecord.{InvalidRecord}

-- The concatenated bytes of fields.
abbrev pub text_of : List (List ℕ) → List ℕ
text_of fields = flat_map (λ f. f) fields

-- The positions of consecutive fields from this offset on, each made from an offset and a length.
unfoldable pub places_of : {P : Type 0} → (ℕ → ℕ → P) → ℕ → List (List ℕ) → List P
places_of made offset [] = []
places_of made offset (field ∷ fields) =
    made offset (length field) ∷ places_of made (offset + length field) fields

-- Whatever comes after the bytes, they begin with this record.
abbrev pub IsRecordForGood : Dialect → List ℕ → List (List ℕ) → List ℕ → Type 0
IsRecordForGood d bytes fields rest =
    (more : List ℕ) → IsRecord d (bytes ++ more) fields (rest ++ more)

-- There is no such record.
abbrev pub NoRecordForGood : Dialect → List ℕ → Type 0
NoRecordForGood d bytes =
    (fields : List (List ℕ)) (rest : List ℕ) → IsRecordForGood d bytes fields rest → ⊥

-- The bytes start with a record of these fields, and `size` holds its number of fields, the length
-- of their bytes, its own length, and whether its line ending is there. With a line ending all
-- longer bytes start with the same record.
pub record SizedAs (d : Dialect) (bytes : List ℕ) (fields : List (List ℕ)) (size : RecordSize)
    : Type 0 where
  pub is_record : IsRecord d bytes fields (drop size.length bytes)
  pub within : size.length ≤ length bytes
  pub count : size.fields ≡ length fields
  pub total : size.text ≡ length (text_of fields)
  pub ended : MatchBool size.ended (IsRecordForGood d bytes fields (drop size.length bytes))
      (NoRecordForGood d bytes)

-- So for some fields.
abbrev pub IsSized : Dialect → List ℕ → RecordSize → Type 0
IsSized d bytes size = (fields : List (List ℕ)) × SizedAs d bytes fields size

-- The contract of the size of a record: the record at the start of the bytes; or no bytes; or the
-- error.
abbrev pub SizesRecord : Dialect → List ℕ → Result (Option RecordSize) InvalidRecord → Type 0
SizesRecord d bytes (Ok (Some size)) = IsSized d bytes size
SizesRecord d bytes (Ok None) = bytes ≡ []
SizesRecord d bytes (Err fault) = IsRefused d bytes fault

-- The bytes begin with a record of this size: this text is the bytes of its fields, and these are
-- their places there, in order.
abbrev pub ShowsFields : {P : Type 0} → (ℕ → ℕ → P) → Dialect → List ℕ → RecordSize → List ℕ
    → List P → Type 0
ShowsFields made d bytes size text places = (fields : List (List ℕ)) × SizedAs d bytes fields size
    × (text ≡ text_of fields) × (places ≡ places_of made 0 fields)

-- ---- what the parts do

-- `bytes` are written at offset `at` if there is room, and `end` is the offset after them. The
-- bytes from there on are unchanged.
pub record PutsBytes (bytes : List ℕ) (at : ℕ) (old new : List ℕ) (end : ℕ) : Type 0 where
  pub is_end : end ≡ at + length bytes
  pub same : length new ≡ length old
  pub there : end ≤ length old → take end new ≡ take at old ++ bytes
  pub behind : drop end new ≡ drop end old

-- A field is written at `at`, and at least as many bytes of the input are consumed.
abbrev pub FieldPut : List ℕ → List ℕ → List ℕ → ℕ → List ℕ → List ℕ → ℕ → Type 0
FieldPut field bytes rest at old new end =
    PutsBytes field at old new end × (end + length rest ≤ at + length bytes)

-- A place is put at its number, if there is room for it. Those after it are unchanged.
pub record PutsPlace {P : Type 0} (place : P) (number : ℕ) (old new : List P) : Type 0 where
  pub same : length new ≡ length old
  pub there : number < length old → take (number + 1) new ≡ take number old ++ place ∷ []
  pub behind : drop (number + 1) new ≡ drop (number + 1) old

-- The fields of the first record are written, as far as there is room, and `size` is the record's
-- size. The rest of both buffers is unchanged.
pub record PutsFields {P : Type 0} (made : ℕ → ℕ → P) (d : Dialect) (bytes old new : List ℕ)
    (before after : List P) (size : RecordSize) : Type 0 where
  pub fields : List (List ℕ)
  pub are : AreFields d bytes fields (drop size.length bytes)
  pub within : size.length ≤ length bytes
  pub count : size.fields ≡ length fields
  pub total : size.text ≡ length (text_of fields)
  pub ended : MatchBool size.ended (IsRecordForGood d bytes fields (drop size.length bytes))
      (NoRecordForGood d bytes)
  pub same : (length new ≡ length old) × (length after ≡ length before)
  pub text : size.text ≤ length old → take size.text new ≡ text_of fields
  pub places : size.fields ≤ length before → take size.fields after ≡ places_of made 0 fields
  pub text_behind : drop size.text new ≡ drop size.text old
  pub places_behind : drop size.fields after ≡ drop size.fields before
