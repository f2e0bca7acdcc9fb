-- Times: digits, a colon and digits.
use Rattle.std.specs.Prelude.{ℕ, List}
use Rattle.std.specs.Borrow.{Bor}
use Rattle.winnow.specs.Counted.{counted_reading}
use Rattle.winnow.specs.AsChar.{IsDecDigit}
use Rattle.winnow.specs.Texts.{BothText, Itself, Members, Text}

-- one or more digits
abbrev pub Digits : Text ℕ (Bor (List ℕ))
Digits = Members counted_reading IsDecDigit 1

-- a mark and digits
abbrev pub MarkedText : ℕ → Text ℕ (Bor (List ℕ))
MarkedText mark = BothText (λ mark digits. digits) (Itself mark) Digits

-- a colon and digits
abbrev pub Minutes : Text ℕ (Bor (List ℕ))
Minutes = MarkedText 58

-- digits, a colon and digits
abbrev pub TimeText : Text ℕ (Bor (List ℕ) × Bor (List ℕ))
TimeText = BothText (λ hours minutes. (hours, minutes)) Digits Minutes
