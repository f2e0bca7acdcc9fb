-- Repetition into a slice.
use Rattle.std.specs.Prelude.{◌≡◌, ℕ, List, ◌++◌, length}
use Rattle.streams.specs.Input.{Input}
use Rattle.streams.specs.Kind.{Kind, backtrack}
use Rattle.streams.specs.Reading.{Reading}
use Rattle.stream_errors.specs.Form.{ErrorForm}
use Rattle.stream_errors.specs.Given.{Keeping, KindGiven}
use Rattle.parser_definitions.specs.Does.{Ran}
use Rattle.parser_definitions.specs.Outcome.{Does}
use Rattle.winnow_core.specs.Chain.{Items}
use Rattle.winnow_repeat.specs.declared.combinator.slices.TooMany.{TooMany}
pub mod Exact

-- The kinds of the error for an output without an element, in a slice of `limit` elements.
abbrev pub TooManyKind : (TooMany → Keeping) → ℕ → Kind → Type 0
TooManyKind keeping limit kind = KindGiven (keeping (record { limit = limit })) backtrack kind

-- `Overwrites outputs old new`: the outputs take the place of the first elements of `old`, and the
-- rest of them stay as they were.
pub record Overwrites {O : Type 0} (outputs old new : List O) : Type 0 where
  pub before : List O
  pub rest : List O
  pub as_many : length before ≡ length outputs
  pub was : old ≡ before ++ rest
  pub is : new ≡ outputs ++ rest

-- The outputs of consecutive items are in the first elements.
abbrev pub StoresItems : {S T L O : Type 0} → Reading T L → Does S T O → ErrorForm → List O → S
    → Input T → List O → Type 0
StoresItems {S} {T} {L} {O} reading does form old s i new =
    (outputs : List O) × (u : S) × (m : Input T) × Items (Ran reading does form) s i outputs u m
    × Overwrites outputs old new
