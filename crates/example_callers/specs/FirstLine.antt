-- The first line of a text, in words of bytes.
use Rattle.std.specs.Prelude.{ℕ, List}
use Rattle.std.specs.Borrow.{Bor}
use Rattle.winnow.specs.Counted.{counted_reading}
use Rattle.winnow.specs.Grammar.{Both, Grammar}
use Rattle.winnow.specs.LineEnding.Grammar.{EndText, LineText}

-- bytes among which is neither a carriage return nor a line feed, which are the output, and after
-- them a line feed, or both
abbrev pub IsFirstLine : Grammar ℕ (Bor (List ℕ))
IsFirstLine = Both (λ line end. line) (LineText counted_reading) (EndText counted_reading)
