-- The steps of a JSON text, from its start to its end.
use Rattle.std.specs.Prelude.{◌≡◌, ◌⊎◌, ℕ, List, [], ◌∷◌, ◌++◌}
use Rattle.format_json_extents.specs.Number.{ExtendsNumber, IsNumber}
use Rattle.format_json_extents.specs.Strings.{IsString}
use Rattle.format_json_extents.specs.Texts.{Either, IsByte, IsLongerRest, IsLongest, MatchesAtStart}
use Rattle.format_json_extents.specs.Texts.{Then}
use Rattle.format_json_extents.specs.Value.{Exactly, IsColon, IsScalar, IsWhitespace}
use Rattle.format_json_extents.specs.Walk.{IsClosingByte, IsSeparator}
use Rattle.format_json_extents.specs.declared.steps.Step.{Step}
use Rattle.format_json_extents.specs.declared.steps.Step.TheVariants as steps

-- an opening bracket, or a closing one
abbrev pub IsBracket : ℕ → Type 0
IsBracket b = ((b ≡ 91) ⊎ (b ≡ 123)) ⊎ IsClosingByte b

-- A bracket, or a value that has no others in it.
abbrev pub IsToken : List ℕ → Type 0
IsToken = Either (IsByte IsBracket) IsScalar

-- `IsBeforeColon bytes`: `bytes` starts with whitespace and a colon.
abbrev pub IsBeforeColon : List ℕ → Type 0
IsBeforeColon bytes =
    (rest : List ℕ) × MatchesAtStart (Then IsWhitespace (IsByte IsColon)) bytes rest

-- `IsOfStep step text rest`: `text` is of kind `step`, and `rest` follows it.
abbrev pub IsOfStep : Step → List ℕ → List ℕ → Type 0
IsOfStep steps.Null text rest = Exactly (110 ∷ 117 ∷ 108 ∷ 108 ∷ []) text
IsOfStep steps.False text rest = Exactly (102 ∷ 97 ∷ 108 ∷ 115 ∷ 101 ∷ []) text
IsOfStep steps.True text rest = Exactly (116 ∷ 114 ∷ 117 ∷ 101 ∷ []) text
IsOfStep steps.Number text rest = IsNumber text
IsOfStep steps.String text rest = IsString text × (IsBeforeColon rest → ⊥)
IsOfStep steps.Name text rest = IsString text × IsBeforeColon rest
IsOfStep steps.BeginArray text rest = text ≡ 91 ∷ []
IsOfStep steps.EndArray text rest = text ≡ 93 ∷ []
IsOfStep steps.BeginObject text rest = text ≡ 123 ∷ []
IsOfStep steps.EndObject text rest = text ≡ 125 ∷ []

-- `IsNextStep step text bytes rest`: after whitespace and separators, `bytes` has `text`, followed
-- by `rest`. `text` is of kind `step` and the longest of its kind there. After a shorter one, a
-- byte of a number follows.
pub record IsNextStep (step : Step) (text bytes rest : List ℕ) : Type 0 where
  pub lead : List ℕ
  pub start : List ℕ
  pub is_lead : IsSeparator lead
  pub splits : bytes ≡ lead ++ start
  pub longest : IsLongest IsToken text start rest
  pub others : (other : List ℕ) → MatchesAtStart IsToken start other
      → (other ≡ rest) ⊎ IsLongerRest ExtendsNumber other rest
  pub is_step : IsOfStep step text rest
