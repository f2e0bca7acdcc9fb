-- A color.
use Rattle.std.specs.Prelude.{ℕ, List}
use Rattle.std.specs.Borrow.{Bor}
use Rattle.winnow.specs.AsChar.{IsHexDigit}
use Rattle.winnow.specs.Counted.{counted_reading}
use Rattle.winnow.specs.Texts.{BothText, Itself, SoManyOf, Text}

-- a slice of the bytes
abbrev pub Slice : Type 0
Slice = Bor (List ℕ)

-- pair = 2HEXDIG
abbrev pub Pair : Text ℕ Slice
Pair = SoManyOf counted_reading IsHexDigit 2

-- color = "#" pair pair pair
unfoldable pub Color : Text ℕ (Slice × Slice × Slice)
Color = BothText (λ sign pairs. pairs) (Itself 35)
    (BothText (λ red (others : Slice × Slice). (red, others.0, others.1)) Pair
    (BothText (λ green blue. (green, blue)) Pair Pair))
