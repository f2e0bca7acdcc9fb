-- Numbers in decimal digits.
use Rattle.std.specs.Prelude.{◌^◌, ℕ, ℤ, FitsSigned}
use Rattle.std.specs.Int.{w16}
use Rattle.winnow.specs.Grammar.{Grammar}
use Rattle.winnow.specs.Numeral.Written.{Written}
use Rattle.winnow.specs.Numeral.Signed.{SignedWritten}

-- what `{}` writes of a number below 2 ^ 16, and no digit after it, but after that of 0
abbrev pub IsPortNumber : Grammar ℕ ℕ
IsPortNumber = Written (λ n. n) (2 ^ 16)

-- what `{}` writes of a number that fits 16 bits with its sign, or that of a positive one after a
-- '+', and no digit after it, but after that of 0
abbrev pub IsOffset : Grammar ℕ ℤ
IsOffset = SignedWritten (λ n. n) (FitsSigned w16)
