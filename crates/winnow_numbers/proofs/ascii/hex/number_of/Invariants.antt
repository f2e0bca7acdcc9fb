use Rattle.std.proofs.Common.{◌≡◌, take}
use Rattle.std.specs.Str.Parse.{digits_value}
use Rattle.winnow_numbers.proofs.ascii.hex.number_of.Given as goal

abbrev pub invariant-loop-byte : goal.invariant-loop-byte
invariant-loop-byte g l =
    g.N.HexUint.number l.number ≡ digits_value 16 (take l.byte-index l.bytes)
