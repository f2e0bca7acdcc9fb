-- Records in bytes that more bytes may follow.
use Rattle.std.specs.Prelude.{ℕ, List}
use Rattle.std.specs.declared.vec.Vec.{Vec}
use Rattle.format_csv_records.specs.Buffers.{IsRecordForGood}
use Rattle.format_csv_records.specs.Early.{IsViablePrefix}
use Rattle.format_csv.specs.Csv.{bytes_of, commas}
use Rattle.format_csv.specs.declared.LineEnd.{LineEnd}
use Rattle.grammars.specs.Grammar.{Grammar}

-- The bytes start with this record for any continuation, so its line ending is there.
abbrev pub IsLine : {A : Type 0} → LineEnd → Grammar ℕ (Vec (Vec ℕ A) A)
IsLine ends bytes fields rest = IsRecordForGood (commas ends) bytes (bytes_of fields.items) rest

-- With at most three more bytes they start with a record, for any continuation.
abbrev pub MayGoOn : LineEnd → List ℕ → Type 0
MayGoOn ends bytes = IsViablePrefix (commas ends) bytes
