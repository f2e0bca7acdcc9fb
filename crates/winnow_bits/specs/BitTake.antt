-- The number of bits that `take` of bits takes.
use Rattle.std.specs.Prelude.{ℕ}
use Rattle.winnow_bits.specs.declared.bits.impls.take.Take.{Take}
pub mod Inversion

-- how many bits are taken
abbrev pub bit_take_count : {I O E : Type 0} → Take I O E → ℕ
bit_take_count s = s.count
