-- Consecutive calls that succeed and consume input.
use Rattle.std.specs.Prelude.{◌<◌, List, length, Ok}
use Rattle.std.specs.List.{FoldsTo}
use Rattle.streams.specs.Input.{Input}
use Rattle.winnow_core.specs.Runs.{Runs}

-- One run that succeeds and consumes, from a state and an input to a state and an input.
abbrev pub IsItem : {S T O : Type 0} → Runs S T O → (S × Input T) → O → (S × Input T) → Type 0
IsItem run from o to =
    run from.0 from.1 (Ok o) to.0 to.1 × (length to.1.left.tokens < length from.1.left.tokens)

-- Items in a chain, from a state and an input to a state and an input.
abbrev pub Items : {S T O : Type 0} → Runs S T O → S → Input T → List O → S → Input T → Type 0
Items run s i outputs u m = FoldsTo (λ p o q. IsItem run p o q) (s, i) outputs (u, m)
