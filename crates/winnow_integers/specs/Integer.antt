-- Integers as bytes.
use Rattle.std.specs.Prelude.{◌+◌, ◌*◌, ◌^◌, ℕ, suc, List, [], ◌∷◌, length, reverse}
use Rattle.std.specs.Prelude.{ℤ, pos, ◌-ℤ◌, nat_lt, if◌then◌else◌}
use Rattle.winnow_integers.specs.declared.binary.endianness.Endianness.{Endianness}
use Rattle.winnow_integers.specs.declared.binary.endianness.Endianness.TheVariants.{Big, Little}
use Rattle.winnow_integers.specs.declared.binary.endianness.Endianness.TheVariants.{Native}
pub mod Laws
pub mod Reads
pub mod Std
pub mod Values
pub mod Written

-- The number that bytes stand for, the highest of them first: the sum of each byte times 256 to
-- the number of bytes after it.
abbrev pub value_of : List ℕ → ℕ
value_of [] = 0
value_of (b ∷ bytes) = b * 256 ^ length bytes + value_of bytes

-- The number that they stand for as two's complement: less 256 to their number, where the first is
-- 128 or more.
abbrev pub signed_of : List ℕ → ℤ
signed_of [] = pos 0
signed_of (b ∷ bytes) =
    if nat_lt b 128 then pos (value_of (b ∷ bytes))
    else pos (value_of (b ∷ bytes)) -ℤ pos (256 ^ suc (length bytes))

-- bytes of an order, as most significant byte first
abbrev pub highest_first : Endianness → List ℕ → List ℕ
highest_first Big bytes = bytes
highest_first Little bytes = reverse bytes
highest_first Native bytes = reverse bytes

-- the number that bytes in an order stand for, without and with a sign
abbrev pub unsigned_value : Endianness → List ℕ → ℕ
unsigned_value order bytes = value_of (highest_first order bytes)

abbrev pub signed_value : Endianness → List ℕ → ℤ
signed_value order bytes = signed_of (highest_first order bytes)
