-- Laws of the parsers of bits.
use Rattle.std.specs.Prelude.{ℕ, Bool, Ok}
use Rattle.streams.specs.Input.{Input}
use Rattle.streams.specs.Reading.{Reading}
use Rattle.stream_bits.specs.Within.{ReadsNumber}
use Rattle.winnow_core.specs.Runs.{Runs}

-- The output is the number of the first `n` bits, where `n` is the state, and the rest remains.
abbrev pub TakesFirstBits : {O L : Type 0} → (O → ℕ) → Reading Bool L → Runs ℕ Bool O → Type 0
TakesFirstBits {O} number reading run =
    (n : ℕ) (i : Input Bool) (o : O) (m : ℕ) (j : Input Bool) → run n i (Ok o) m j
    → ReadsNumber reading n i (number o) j
