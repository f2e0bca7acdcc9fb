-- The steps of a JSON text from its start to its end, by the grammar of values.
use Rattle.std.specs.Prelude.{◌++◌, ◌∷◌, ◌≡◌, ◌⊎◌, [], ℕ, Bool, List, false, suc, true, zero}
use Rattle.format_json_extents.specs.Number.{IsNumber}
use Rattle.format_json_extents.specs.Steps.{IsNextStep, IsToken}
use Rattle.format_json_extents.specs.Strings.{IsString}
use Rattle.format_json_extents.specs.Texts.{IsByte, MatchesAtStart, Then}
use Rattle.format_json_extents.specs.Value.{Exactly, IsColon, IsElement, IsWhitespace}
use Rattle.format_json_extents.specs.Value.{closing_bracket, opening_bracket}
use Rattle.format_json_extents.specs.Walk.{IsSeparator}
use Rattle.format_json_extents.specs.declared.steps.Step.{Step}
use Rattle.format_json_extents.specs.declared.steps.Step.TheVariants as steps

-- steps, each with its text
abbrev pub StepList : Type 0
StepList = List (Step × List ℕ)

-- A value that has no others in it, by what it is.
abbrev pub IsScalarOf : Step → List ℕ → Type 0
IsScalarOf steps.Null text = Exactly (110 ∷ 117 ∷ 108 ∷ 108 ∷ []) text
IsScalarOf steps.False text = Exactly (102 ∷ 97 ∷ 108 ∷ 115 ∷ 101 ∷ []) text
IsScalarOf steps.True text = Exactly (116 ∷ 114 ∷ 117 ∷ 101 ∷ []) text
IsScalarOf steps.Number text = IsNumber text
IsScalarOf steps.String text = IsString text
IsScalarOf step text = ⊥

-- the step before the contents of an object (`true`) or an array (`false`), and the one after them
abbrev pub begin_of : Bool → Step
begin_of true = steps.BeginObject
begin_of false = steps.BeginArray

abbrev pub end_of : Bool → Step
end_of true = steps.EndObject
end_of false = steps.EndArray

-- The text is such a value, and it is its one step.
pub record StepsOfScalar (told : StepList) (text : List ℕ) : Type 0 where
  pub step : Step
  pub is_scalar : IsScalarOf step text
  pub alone : told ≡ (step, text) ∷ []

-- A value with whitespace around it: the steps of the value.
abbrev pub StepsOfElement : (StepList → List ℕ → Type 0) → StepList → List ℕ → Type 0
StepsOfElement V told = IsElement (V told)

-- A name with whitespace around it, a colon and a value: the name, and the steps of the value.
pub record StepsOfMember (V : StepList → List ℕ → Type 0) (told : StepList)
    (text : List ℕ) : Type 0 where
  pub name : List ℕ
  pub others : StepList
  pub is_name : IsString name
  pub is_member : Then
      (Then IsWhitespace (Then (Exactly name) (Then IsWhitespace (IsByte IsColon))))
      (IsElement (V others)) text
  pub in_turn : told ≡ (steps.Name, name) ∷ others

-- A member of an object (`true`), or an element of an array (`false`).
abbrev pub StepsOfItem : Bool → (StepList → List ℕ → Type 0) → StepList → List ℕ → Type 0
StepsOfItem true V = StepsOfMember V
StepsOfItem false V = StepsOfElement V

-- One or more texts in `P`, separated by commas: the steps of each in sequence.
pub data StepsOfList (P : StepList → List ℕ → Type 0) : StepList → List ℕ → Type 0 where
  tells_last : (told : StepList) (text : List ℕ) → P told text → StepsOfList P told text
  tells_before : (one others told : StepList) (first more text : List ℕ) → P one first
      → StepsOfList P others more → text ≡ first ++ 44 ∷ more → told ≡ one ++ others
      → StepsOfList P told text

-- An array of values or an object of them: its bracket, the steps of its items, and its bracket.
pub record StepsOfNested (keyed : Bool) (V : StepList → List ℕ → Type 0) (told : StepList)
    (text : List ℕ)
    : Type 0 where
  pub inner : StepList
  pub inside : List ℕ
  pub is_inside : (IsWhitespace inside × (inner ≡ []))
      ⊎ StepsOfList (StepsOfItem keyed V) inner inside
  pub joins : text ≡ opening_bracket keyed ∷ (inside ++ closing_bracket keyed ∷ [])
  pub in_turn : told ≡ (begin_of keyed, opening_bracket keyed ∷ [])
      ∷ (inner ++ (end_of keyed, closing_bracket keyed ∷ []) ∷ [])

-- A value whose arrays and objects are nested at most `level` deep.
abbrev pub StepsOfValue : ℕ → StepList → List ℕ → Type 0
StepsOfValue zero told text = StepsOfScalar told text
StepsOfValue (suc level) told text = StepsOfScalar told text
    ⊎ (StepsOfNested false (StepsOfValue level) told text
    ⊎ StepsOfNested true (StepsOfValue level) told text)

-- A JSON text: the steps of its value.
abbrev pub StepsOfText : ℕ → StepList → List ℕ → Type 0
StepsOfText level = StepsOfElement (StepsOfValue level)

-- ---- calls

-- `InTurn bytes told rest`: successive calls, each on the rest of the one before, return `told` and
-- end with `rest`.
unfoldable pub InTurn : List ℕ → StepList → List ℕ → Type 0
InTurn bytes [] rest = bytes ≡ rest
InTurn bytes (it ∷ told) rest =
    (mid : List ℕ) × IsNextStep it.0 it.1 bytes mid × InTurn mid told rest

-- `StepsResult told found rest`: `found` is all of `told`, and `rest` is whitespace; or `found` is
-- a proper prefix of `told`, and `rest` has one more step.
abbrev pub StepsResult : StepList → StepList → List ℕ → Type 0
StepsResult told found rest =
    ((found ≡ told) × IsWhitespace rest)
    ⊎ ((it : Step × List ℕ) × (others : StepList) × (told ≡ found ++ it ∷ others)
    × ((after : List ℕ) × MatchesAtStart (Then IsSeparator IsToken) rest after))
