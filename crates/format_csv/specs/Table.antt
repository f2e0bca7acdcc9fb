-- Tables (RFC 4180, section 2, item 3): a document whose first record is a header, with as many
-- fields in each other record.
use Rattle.std.specs.Prelude.{◌≡◌, ◌+◌, ◌⊎◌, ℕ, List, [], ◌∷◌, ◌++◌, length, Option, Some, None}
use Rattle.std.specs.Prelude.{Result, Ok, Err}
use Rattle.std.specs.Borrow.{Bor}
use Rattle.std.specs.List.{All}
use Rattle.std.specs.Slice.{IsItemAt}
use Rattle.std.specs.declared.vec.Vec.{Vec}
use Rattle.streams.specs.Kind.{Kind}
use Rattle.streams.specs.declared.needed.Needed.{Needed}
use Rattle.stream_errors.specs.declared.fault.ParseFault.{ParseFault}
use Rattle.format_csv.specs.Csv.{AreRecords}
use Rattle.format_csv.specs.declared.LineEnd.{LineEnd}
use Rattle.format_csv.specs.declared.table.Ragged.{Ragged}
use Rattle.format_csv.specs.declared.table.Table.{Table}
use Rattle.format_csv.specs.declared.table.TableError.{TableError}
use Rattle.format_csv.specs.declared.table.TableError.TheVariants.{Document, Empty, Width}
use Rattle.winnow_core.specs.Exact.Whole.{IsWant}

-- `IsFirst such those xs place`: the item of `xs` at index `place` satisfies `those`, and all items
-- before it satisfy `such`.
pub record IsFirst {X : Type 0} (such those : X → Type 0) (xs : List X) (place : ℕ) : Type 0 where
  pub before : List X
  pub found : X
  pub behind : List X
  pub whole : xs ≡ before ++ (found ∷ behind)
  pub place_is : length before ≡ place
  pub all_such : All such before
  pub is_one : those found

-- `HasWidth width fields`: the record has `width` fields.
abbrev pub HasWidth : {A : Type 0} → ℕ → Vec (Vec ℕ A) A → Type 0
HasWidth width fields = length fields.items ≡ width

-- `IsOdd wants has fields`: the record has `has` fields, and `has` differs from `wants`.
abbrev pub IsOdd : {A : Type 0} → ℕ → ℕ → Vec (Vec ℕ A) A → Type 0
IsOdd wants has fields = HasWidth has fields × (has ≡ wants → ⊥)

-- This record, counted from 1, is the first that has not this width.
abbrev pub IsFirstOdd : {A : Type 0} → ℕ → List (Vec (Vec ℕ A) A) → Ragged → Type 0
IsFirstOdd width records ragged = (ragged.wants ≡ width) × (place : ℕ)
    × (ragged.number ≡ place + 1)
    × IsFirst (HasWidth width) (IsOdd width ragged.has) records place

-- After the header, this record is the first that has not as many fields.
abbrev pub IsRagged : {A : Type 0} → List (Vec (Vec ℕ A) A) → Ragged → Type 0
IsRagged [] ragged = ⊥
IsRagged (header ∷ records) ragged = IsFirstOdd (length header.items) records ragged

-- A header, and records of as many fields.
abbrev pub IsHeaded : {A : Type 0} → List (Vec (Vec ℕ A) A) → Table A → Type 0
IsHeaded all table = (all ≡ table.header ∷ table.records.items)
    × All (HasWidth (length table.header.items)) table.records.items

-- The contract of `parse_table`: the bytes are a document of the table's records; or out of memory,
-- or they are not a document; or they are empty; or they are a document in which `ragged` is the
-- first record of another width.
abbrev pub TableTold : {A I X : Type 0} → (X → Kind) → LineEnd → List ℕ
    → Result (Table A) (TableError (ParseFault I X Needed)) → Type 0
TableTold {A} inner_kind ends bytes (Ok table) = (document : Vec (Vec (Vec ℕ A) A) A)
    × AreRecords ends bytes document [] × IsHeaded document.items table
TableTold {A} inner_kind ends bytes (Err (Document fault)) = IsWant inner_kind fault
    ⊎ ((document : Vec (Vec (Vec ℕ A) A) A) → AreRecords ends bytes document [] → ⊥)
TableTold {A} inner_kind ends bytes (Err Empty) = bytes ≡ []
TableTold {A} inner_kind ends bytes (Err (Width ragged)) = (document : Vec (Vec (Vec ℕ A) A) A)
    × AreRecords ends bytes document [] × IsRagged document.items ragged

-- A field of this name, and another.
abbrev pub IsNamed : {A : Type 0} → List ℕ → Vec ℕ A → Type 0
IsNamed name field = field.items ≡ name

abbrev pub OtherName : {A : Type 0} → List ℕ → Vec ℕ A → Type 0
OtherName name field = field.items ≡ name → ⊥

-- The field of a record under the first column of this name, if there are both.
abbrev pub FieldTold : {A : Type 0} → List (Vec ℕ A) → List (Vec ℕ A) → List ℕ
    → Option (Bor (Vec ℕ A)) → Type 0
FieldTold header fields name field = (All (OtherName name) header × (field ≡ None))
    ⊎ ((place : ℕ) × IsFirst (OtherName name) (IsNamed name) header place
    × IsItemAt fields place field)

-- ---- what the parts answer

-- the first record that has not this width, if there is one
abbrev pub FirstOdd : {A : Type 0} → ℕ → List (Vec (Vec ℕ A) A) → Option Ragged → Type 0
FirstOdd width records None = All (HasWidth width) records
FirstOdd width records (Some ragged) = IsFirstOdd width records ragged

-- what the records of a document are
abbrev pub HeadTold : {F A : Type 0} → List (Vec (Vec ℕ A) A) → Result (Table A) (TableError F)
    → Type 0
HeadTold all (Ok table) = IsHeaded all table
HeadTold all (Err (Document fault)) = ⊥
HeadTold all (Err Empty) = all ≡ []
HeadTold all (Err (Width ragged)) = IsRagged all ragged

-- the first column of this name, if there is one
abbrev pub FirstNamed : {A : Type 0} → List (Vec ℕ A) → List ℕ → Option ℕ → Type 0
FirstNamed header name None = All (OtherName name) header
FirstNamed header name (Some place) = IsFirst (OtherName name) (IsNamed name) header place
