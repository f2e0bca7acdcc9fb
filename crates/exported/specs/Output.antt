-- Output into a buffer of the caller.
use Rattle.std.specs.Prelude.{◌≡◌, ◌≤◌, ◌<◌, ◌+◌, ◌-◌, ◌^◌, ℕ, List, ◌++◌, drop, length, map}
use Rattle.std.specs.Prelude.{min, take}
use Rattle.std.specs.Borrow.{Bor}
use Rattle.exported.specs.declared.output.Bytes.{Bytes}

-- the slices that the caller passes
abbrev pub slices_of : List Bytes → List (Bor (List ℕ))
slices_of slices = map (λ it. it.bytes) slices

-- the largest size that is written
abbrev pub most : ℕ
most = 2 ^ 64 - 1

-- `Puts bytes at old end new`: `bytes` is written at offset `at` of a buffer, if it fits, and `end`
-- is the offset after it. The bytes before and after it are unchanged.
pub record Puts (bytes : List ℕ) (at : ℕ) (old : List ℕ) (end : ℕ) (new : List ℕ) : Type 0 where
  pub is_end : end ≡ min (at + length bytes) most
  pub same : length new ≡ length old
  pub there : end ≤ length old → take end new ≡ take at old ++ bytes
  pub behind : end ≤ length old → drop end new ≡ drop end old

-- `Fills text old new size`: `text` is written at the start of a buffer, whose other bytes are
-- unchanged, and `size` is its length.
pub record Fills (text old new : List ℕ) (size : ℕ) : Type 0 where
  pub is_size : size ≡ length text
  pub fits : size ≤ length old
  pub is_text : new ≡ text ++ drop size old

-- `IsTooLong text old size`: `text` does not fit into a buffer, and `size` is its length, or the
-- largest number if that is larger.
pub record IsTooLong (text old : List ℕ) (size : ℕ) : Type 0 where
  pub is_size : size ≡ min (length text) most
  pub small : length old < length text
