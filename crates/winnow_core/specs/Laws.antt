-- Laws of the parsers and the adapters.
use Rattle.std.specs.Prelude.{◌≡◌, List, ◌++◌, Ok}
use Rattle.streams.specs.Input.{Input}
use Rattle.streams.specs.Reading.{Reading}
use Rattle.winnow_core.specs.Runs.{Runs}

-- each slice shows one list of tokens
abbrev pub ShowsOne : {T L : Type 0} → Reading T L → (L → List T) → Type 0
ShowsOne {T} {L} reading tokens_of =
    (l : L) (xs : List T) → reading.shows l xs → tokens_of l ≡ xs

-- If a call returns a slice, the tokens of the slice and then the rest are the original input.
abbrev pub TakesFromTheFront : {S T L : Type 0} → (L → List T) → Runs S T L → Type 0
TakesFromTheFront {S} {T} {L} tokens_of run =
    (s : S) (i : Input T) (slice : L) (t : S) (j : Input T)
    → run s i (Ok slice) t j → i.left.tokens ≡ tokens_of slice ++ j.left.tokens
