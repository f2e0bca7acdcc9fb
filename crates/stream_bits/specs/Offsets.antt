-- The bits that an iterator has still to give, each with its offset.
use Rattle.std.specs.Prelude.{ℕ}
use Rattle.std.specs.Prelude.{Bool, true}
use Rattle.std.specs.Prelude.{false}
use Rattle.std.specs.Prelude.{List, [], ◌++◌, map}
use Rattle.stream_bits.specs.BitList.{bits_of}
use Rattle.stream_bits.specs.BitList.{low_bits}

-- the bytes still to come, without their offsets
abbrev pub bytes_to_come : List (ℕ × ℕ) → List ℕ
bytes_to_come bytes = map (λ x. x.1) bytes

-- the bits to come: the low `ahead` bits of the byte `begun`, and those of the bytes after it; or
-- none
abbrev pub bits_to_come : Bool → List (ℕ × ℕ) → ℕ → ℕ → List Bool
bits_to_come true bytes begun ahead = low_bits ahead begun ++ bits_of (bytes_to_come bytes)
bits_to_come false bytes begun ahead = []
