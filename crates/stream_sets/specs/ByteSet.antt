-- Which bytes a table of bits has.
use Rattle.std.specs.Prelude.{◌+◌, ◌/◌, ◌%◌, ℕ, suc, zero, Bool, List, cond, slice_index_or, ◌==◌}
use Rattle.std.specs.Int.{bit_at}
use Rattle.stream_sets.specs.declared.byte_set.ByteSet.{ByteSet}

-- the bit of a byte in the words of a table
abbrev pub bit_of : List ℕ → ℕ → ℕ
bit_of words b = bit_at (slice_index_or words (b / 64) 0) (b % 64)

-- whether a byte is a member of a table
abbrev pub has_byte : ByteSet → ℕ → Bool
has_byte set b = bit_of set.words b == 1

-- how many numbers below another are members
unfoldable pub members_below : ByteSet → ℕ → ℕ
members_below set zero = 0
members_below set (suc n) = members_below set n + cond (has_byte set n) 1 0
