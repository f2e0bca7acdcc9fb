-- The effect of recording an error on a stream.
use Rattle.std.specs.Prelude.{◌≡◌, ◌⊎◌, Bool, true, false, [], ◌∷◌, ◌++◌, Result, MatchResult}
use Rattle.streams.specs.Input.{Input}
use Rattle.streams.specs.Kind.{Kind, memory}

-- an input with a kind after those that were recorded before
abbrev pub with_recorded : {T : Type 0} → Input T → Kind → Input T
with_recorded i kind =
    record i { status = record i.status { recorded = i.status.recorded ++ kind ∷ [] } }

-- A stream that records errors has the kind after those recorded before; or memory allocation
-- failed, and the returned error reports that. A stream that records nothing returns the error
-- itself. If an error is returned, the stream is unchanged.
abbrev pub Records : {E T : Type 0} → Bool → (E → Kind) → E → Input T → Result (Unit {0}) E
    → Input T → Type 0
Records supports kind error before answer after = MatchResult answer
    (λ _. (supports ≡ true) × (after ≡ with_recorded before (kind error)))
    (λ back. (after ≡ before) × (((supports ≡ false) × (back ≡ error))
    ⊎ ((supports ≡ true) × (kind back ≡ memory))))
