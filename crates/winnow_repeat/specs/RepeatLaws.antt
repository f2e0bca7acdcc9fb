-- Laws of repetition.
use Rattle.std.specs.List.{FoldsTo}
use Rattle.std.specs.Prelude.{◌≡◌, ◌≤◌, ◌+◌, ◌⊎◌, ℕ, List, None, length}
use Rattle.stream_sets.specs.Accumulator.{Accumulator}
use Rattle.stream_sets.specs.Range.{from_to}
use Rattle.stream_sets.specs.declared.range.Range.{Range}
use Rattle.parser_definitions.specs.Consumes.{Item}
use Rattle.parser_definitions.specs.Folding.{gathering}
use Rattle.parser_definitions.specs.Left.{End, Left}
use Rattle.parser_definitions.specs.Outcome.{Does, Outcome, Setting, wants}
use Rattle.parser_definitions.specs.Then.Steps.{first, with_first}
use Rattle.winnow_repeat.specs.Turns.{AddsItem, LastTurn}

-- Consecutive items, and the call that ended them and gave the outcome: there is no greatest
-- number, so there is one call more. The number of calls is at most one more than the number of
-- units in the input. Or the first allocation failed, and nothing was called.
abbrev pub EndsOnceAUnit : {S T O C : Type 0} → (List T → ℕ) → Does S T O → Accumulator C O
    → Does (S × Range) T C
EndsOnceAUnit {S} {T} {O} {C} units does into at s w x =
    ((empty : C) × (outputs : List O) × (b : C × (S × Range) × Left T) × into.starts None empty
    × FoldsTo (AddsItem first with_first (gathering into) (from_to 0 None) (Item does) at)
    (empty, s, w) outputs b
    × LastTurn first with_first (gathering into) (from_to 0 None) (Item does)
    (b.0, length outputs) at b.1 b.2 x
    × (length outputs + 1 ≤ units w.tokens + 1))
    ⊎ (into.start_grows None × (x ≡ wants))

-- A repetition of any number of items is such a chain.
abbrev pub RunsAtMostOnceAUnit : {S T O C : Type 0} → (List T → ℕ) → Does S T O
    → Accumulator C O → Does (S × Range) T C → Type 0
RunsAtMostOnceAUnit {S} {T} {O} {C} units does into repeats =
    (at : Setting) (s : S × Range) (w : Left T) (x : Outcome (End (S × Range) T) C)
    → s.1 ≡ record { start_inclusive = 0; end_inclusive = None } → repeats at s w x
    → EndsOnceAUnit units does into at s w x
