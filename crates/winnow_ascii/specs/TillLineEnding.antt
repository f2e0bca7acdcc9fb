-- Lines of `till_line_ending`.
use Rattle.std.specs.Prelude.{◌≡◌, ◌⊎◌, ℕ, List, [], None}
use Rattle.streams.specs.Input.{Input, Takes}
use Rattle.streams.specs.Kind.{Kind}
use Rattle.streams.specs.Reading.{Reading}
use Rattle.grammars.specs.Grammar.Searches.{HasNoLineEnd, IsBefore}
use Rattle.parser_definitions.specs.Outcome.{setting_of}
use Rattle.parser_definitions.specs.TillLineEnding.{NeverIncomplete}
use Rattle.stream_errors.specs.Form.{ErrorForm}
use Rattle.winnow_core.specs.Short.{ShortKind}
pub mod Inversion
pub mod Laws

-- Takes a line: the input up to the first carriage return or line feed; or all remaining input, if
-- neither occurs and the error for missing input is a backtrack.
abbrev pub TakesLine : {T S : Type 0} → (ℕ × ℕ → List T → Type 0) → Reading T S → ErrorForm
    → Input T → S → Input T → Type 0
TakesLine {T} sought reading form i slice j =
    (front : List T) × (IsBefore (sought (13, 10)) i.left.tokens front j.left.tokens
    ⊎ (HasNoLineEnd sought i.left.tokens × NeverIncomplete (setting_of form i)
    × (front ≡ i.left.tokens) × (j.left.tokens ≡ []))) × Takes reading front i slice j

-- Neither occurs, and the error for missing input is not a backtrack: no line is taken.
abbrev pub LacksLineEnd : {T : Type 0} → (ℕ × ℕ → List T → Type 0) → ErrorForm → Input T → Kind
    → Input T → Type 0
LacksLineEnd sought form i k j =
    HasNoLineEnd sought i.left.tokens × (NeverIncomplete (setting_of form i) → ⊥)
    × ShortKind form None i k × (j ≡ i)
