-- Numbers as integers.
use Rattle.std.specs.Prelude.{ℕ, ℤ, List, Option, ok_or}
use Rattle.std.specs.Int.{w64}
use Rattle.std.specs.Str.Parse.{ParsesSigned, ParsesUnsigned}

-- The integer that digits with a sign before them, or without, are in base ten, where it fits 64
-- bits; none of any other text.
abbrev pub IsInteger : List ℕ → Option ℤ → Type 0
IsInteger text n = ParsesSigned w64 10 text (ok_or n text)

-- The same without a sign.
abbrev pub IsNatural : List ℕ → Option ℕ → Type 0
IsNatural text n = ParsesUnsigned 64 10 text (ok_or n text)
