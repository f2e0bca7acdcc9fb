-- The fields of a record whose bytes are all in one buffer.
use Rattle.std.specs.Prelude.{◌≤◌, ◌-◌, ℕ, zero, suc, List, [], ◌∷◌, take, drop, length}
use Rattle.std.specs.Prelude.{Option, Some, None}
use Rattle.format_csv_records.specs.declared.record.ByteRecord.TheInside.{Inside}

-- the fields that end at the offsets `ends`, from offset `start` on
unfoldable pub cut : ℕ → List ℕ → List ℕ → List (List ℕ)
cut start [] bytes = []
cut start (end ∷ ends) bytes = take (end - start) (drop start bytes) ∷ cut end ends bytes

-- the last of the offsets, or `start`
unfoldable pub last_of : ℕ → List ℕ → ℕ
last_of start [] = start
last_of start (end ∷ ends) = last_of end ends

-- the places rise, and none is past the size
unfoldable pub AreAscending : ℕ → List ℕ → ℕ → Type 0
AreAscending start [] size = start ≤ size
AreAscending start (end ∷ ends) size = (start ≤ end) × AreAscending end ends size

-- The state of a record as contracts see it: its bytes, and the end of each field.
pub record Row : Type 0 where
  pub bytes : List ℕ
  pub ends : List ℕ

abbrev pub row_of : {A : Type 0} → Inside A → Row
row_of it = record { bytes = it.bytes.items; ends = it.ends.items }

-- The fields of a record.
abbrev pub fields_of : Row → List (List ℕ)
fields_of row = cut 0 row.ends row.bytes

-- The bytes after the last field: what is there of the next one.
abbrev pub begun_of : Row → List ℕ
begun_of row = drop (last_of 0 row.ends) row.bytes

abbrev pub HasAscendingEnds : Row → Type 0
HasAscendingEnds row = AreAscending 0 row.ends (length row.bytes)

-- The field at an index, counted from 0, if there is one.
unfoldable pub field_at : List (List ℕ) → ℕ → Option (List ℕ)
field_at [] place = None
field_at (field ∷ fields) zero = Some field
field_at (field ∷ fields) (suc place) = field_at fields place

-- the start of the field at an index
unfoldable pub start_of : ℕ → List ℕ → ℕ → ℕ
start_of start [] place = start
start_of start (end ∷ ends) zero = start
start_of start (end ∷ ends) (suc place) = start_of end ends place
