-- The grammar of the parser of colors.
use Rattle.std.specs.Prelude.{ℕ, Some}
use Rattle.winnow.specs.AsChar.{IsHexDigit}
use Rattle.winnow.specs.Grammar.{Both, Grammar, InClass, Longest, Three}
use Rattle.winnow.specs.Range.{from_to}
use Rattle.winnow.specs.Reading.{Reading}

module _ {T L : Type 0} (reading : Reading T L) (seen : ℕ → T) (literal : ℕ → Grammar T ℕ) where
  -- take_while(2, HexDigits)
  abbrev pub PairRead : Grammar T L
  PairRead = Longest reading seen (InClass IsHexDigit (λ b. b)) tt (from_to 2 (Some 2))

  -- preceded(b'#', (red, green, blue))
  abbrev pub ColorRead : Grammar T (L × L × L)
  ColorRead = Both (λ o1 o2. o2) (literal 35)
      (Three (λ o1 o2 o3. (o1, o2, o3)) PairRead PairRead PairRead)
