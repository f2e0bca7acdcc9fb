-- Bytes that were read and are not let go.
use Rattle.std.specs.Prelude.{◌≡◌, ◌≤◌, ◌*◌, ◌++◌, ℕ, List, drop, length, take, Option}
use Rattle.std.specs.Io.KnownBytes.{Consumes}
use Rattle.format_csv_records.specs.declared.read_buffer.Buffer.TheInside.{Inside}

-- The bytes that are held, and how many a buffer has room for.
pub record Held : Type 0 where
  pub bytes : List ℕ
  pub size : ℕ

abbrev pub held_of : {A : Type 0} → Inside A → Held
held_of it = record {
  bytes = drop it.start (take it.filled it.bytes.items);
  size = length it.bytes.items;
}

abbrev pub IsHeld : {A : Type 0} → Inside A → Type 0
IsHeld it = (it.start ≤ it.filled) × (it.filled ≤ length it.bytes.items)

-- The bytes that are held are at least half of those that there is room for. Otherwise a read needs
-- no memory.
abbrev pub IsFull : Held → Type 0
IsFull held = held.size ≤ 2 * length held.bytes

-- `GrewByReading old new before after`: `new` is `old` followed by the bytes that the reader gave.
pub record GrewByReading (old new : List ℕ) (before after : Option (List ℕ)) : Type 0 where
  pub read : List ℕ
  pub grew : new ≡ old ++ read
  pub consumed : Consumes before after read
