-- The state of a table reader, as contracts see it.
use Rattle.std.specs.Prelude.{ℕ}
use Rattle.format_csv_records.specs.Extents.{IsExtentOf}
use Rattle.format_csv_records.specs.declared.dialect.Dialect.{Dialect}
use Rattle.format_csv_records.specs.Held.{Held}
use Rattle.format_csv_records.specs.declared.reader.Reader.TheInside.{Inside}

-- The reader that gives its bytes, how its records are written, the bytes that were read and not
-- passed, and how many bytes were passed.
pub record Table (R : Type 0) : Type 0 where
  pub source : R
  pub dialect : Dialect
  pub buffer : Held
  pub offset : ℕ

abbrev pub table_of : {R A : Type 0} → Inside R A → Table R
table_of it = record {
  source = it.source;
  dialect = it.dialect;
  buffer = it.buffer;
  offset = it.offset;
}

-- The extent is of the bytes held.
abbrev pub IsOfBuffer : {R A : Type 0} → Inside R A → Type 0
IsOfBuffer it = IsExtentOf it.dialect it.extent it.buffer.bytes
