-- Bytes that are a table give that table, and a ragged record is reported, unless an allocation
-- fails: the cases of `TableTold` exclude each other.
use Rattle.std.specs.Prelude.{◌≡◌, ℕ, List, [], ◌∷◌, Result, Ok, Err}
use Rattle.std.specs.List.{AllZip}
use Rattle.std.specs.declared.vec.Vec.{Vec}
use Rattle.streams.specs.Kind.{Kind}
use Rattle.streams.specs.declared.needed.Needed.{Needed}
use Rattle.stream_errors.specs.declared.fault.ParseFault.{ParseFault}
use Rattle.format_csv.specs.Csv.{AreRecords, bytes_of}
use Rattle.format_csv.specs.Table.{IsHeaded, IsRagged}
use Rattle.format_csv.specs.declared.LineEnd.{LineEnd}
use Rattle.format_csv.specs.declared.table.Ragged.{Ragged}
use Rattle.format_csv.specs.declared.table.Table.{Table}
use Rattle.format_csv.specs.declared.table.TableError.{TableError}
use Rattle.format_csv.specs.declared.table.TableError.TheVariants.{Document, Empty, Width}
use Rattle.winnow_core.specs.Exact.Whole.{IsWant}

-- The same numbers.
abbrev pub SameNumbers : Ragged → Ragged → Type 0
SameNumbers r s = (r.number ≡ s.number) × ((r.has ≡ s.has) × (r.wants ≡ s.wants))

module _ {A : Type 0} where
  -- fields of the same bytes
  abbrev pub SameFields : Vec (Vec ℕ A) A → Vec (Vec ℕ A) A → Type 0
  SameFields fields others = bytes_of fields.items ≡ bytes_of others.items

  -- `Answers inner_kind table result`: `result` is a table with the same fields as `table`, or out
  -- of memory.
  abbrev pub Answers : {I X : Type 0} → (X → Kind) → Table A
      → Result (Table A) (TableError (ParseFault I X Needed)) → Type 0
  Answers inner_kind table (Ok other) =
      AllZip SameFields (table.header ∷ table.records.items) (other.header ∷ other.records.items)
  Answers inner_kind table (Err (Document fault)) = IsWant inner_kind fault
  Answers inner_kind table (Err Empty) = ⊥
  Answers inner_kind table (Err (Width ragged)) = ⊥

  -- `AnswersRagged inner_kind ragged result`: `result` reports `ragged`, or out of memory.
  abbrev pub AnswersRagged : {I X : Type 0} → (X → Kind) → Ragged
      → Result (Table A) (TableError (ParseFault I X Needed)) → Type 0
  AnswersRagged inner_kind ragged (Ok table) = ⊥
  AnswersRagged inner_kind ragged (Err (Document fault)) = IsWant inner_kind fault
  AnswersRagged inner_kind ragged (Err Empty) = ⊥
  AnswersRagged inner_kind ragged (Err (Width other)) = SameNumbers ragged other

  -- `IsAnswered inner_kind ends bytes result`: if `bytes` is a document, `result` is its table or
  -- its first ragged record, or out of memory.
  abbrev pub IsAnswered : {I X : Type 0} → (X → Kind) → LineEnd → List ℕ
      → Result (Table A) (TableError (ParseFault I X Needed)) → Type 0
  IsAnswered inner_kind ends bytes result =
      ((document : Vec (Vec (Vec ℕ A) A) A) → AreRecords ends bytes document []
      → ((table : Table A) → IsHeaded document.items table → Answers inner_kind table result)
      × ((ragged : Ragged) → IsRagged document.items ragged
      → AnswersRagged inner_kind ragged result))
