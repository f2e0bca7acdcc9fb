-- Steps of a walk through a JSON text, as callers see them.
use Rattle.std.specs.Prelude.{◌≡◌, ℕ, List}
use Rattle.format_json_extents.specs.Steps.{IsNextStep}
use Rattle.format_json_extents.specs.declared.steps.Step.{Step}
use Rattle.format_json_extents.specs.declared.steps.Step.TheVariants as steps
use Rattle.exported.specs.Span.{StandsAt}
use Rattle.exported.specs.declared.json.JsonItem.{JsonItem}

-- the number of a kind of steps
abbrev pub number_of_step : Step → ℕ
number_of_step steps.Null = 0
number_of_step steps.False = 1
number_of_step steps.True = 2
number_of_step steps.Number = 3
number_of_step steps.String = 4
number_of_step steps.Name = 7
number_of_step steps.BeginArray = 8
number_of_step steps.EndArray = 9
number_of_step steps.BeginObject = 10
number_of_step steps.EndObject = 11

-- `ShowsStep input it`: after an optional separator, `input` has a step with the kind and the span
-- in `it`, the longest one there, followed by the rest.
pub record ShowsStep (input : List ℕ) (it : JsonItem) : Type 0 where
  pub text : List ℕ
  pub rest : List ℕ
  pub step : Step
  pub is_next : IsNextStep step text input rest
  pub is_number : it.kind ≡ number_of_step step
  pub place : StandsAt input it.span text rest
