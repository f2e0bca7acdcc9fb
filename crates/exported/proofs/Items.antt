-- Lemmas about the offset of the next value or step.
use Rattle.std.proofs.Common.{◌≡◌, ◌∙◌, ◌+◌, ◌-◌, ◌≤◌, ◌++◌, ℕ, List, ap, arith, length}
use Rattle.std.proofs.Common.{length-append}
use Rattle.format_json_extents.specs.Steps.{IsNextStep}
use Rattle.format_json_extents.specs.Walk.{IsNextValue}
use Rattle.format_json_extents.specs.declared.steps.Step.{Step}
use Rattle.exported.specs.Span.{StandsAt}
use Rattle.exported.specs.declared.span.Span.{Span}

next_lengths : (level : ℕ) (text bytes rest : List ℕ) → (it : IsNextValue level text bytes rest)
    → length bytes ≡ length it.lead + (length text + length rest)
next_lengths level text bytes rest it =
    omega (
      arith,
      ap length it.splits,
      length-append it.lead it.start,
      ap length it.longest.splits,
      length-append text rest,
    )

pub next_within : (level : ℕ) (text bytes rest : List ℕ) → IsNextValue level text bytes rest
    → length rest + length text ≤ length bytes
next_within level text bytes rest it = omega (arith, next_lengths level text bytes rest it)

pub next_stands : (level : ℕ) (text bytes rest : List ℕ) (place : Span)
    → IsNextValue level text bytes rest → place.offset ≡ length bytes - length rest - length text
    → place.length ≡ length text → StandsAt bytes place text rest
next_stands level text bytes rest place it begins ends = record {
  before = it.lead;
  splits = it.splits ∙ ap (λ l. it.lead ++ l) it.longest.splits;
  begins = omega (arith, begins, next_lengths level text bytes rest it);
  ends = ends;
}

step_lengths : (step : Step) (text bytes rest : List ℕ) → (it : IsNextStep step text bytes rest)
    → length bytes ≡ length it.lead + (length text + length rest)
step_lengths step text bytes rest it =
    omega (
      arith,
      ap length it.splits,
      length-append it.lead it.start,
      ap length it.longest.splits,
      length-append text rest,
    )

pub step_within : (step : Step) (text bytes rest : List ℕ) → IsNextStep step text bytes rest
    → length rest + length text ≤ length bytes
step_within step text bytes rest it = omega (arith, step_lengths step text bytes rest it)

pub step_stands : (step : Step) (text bytes rest : List ℕ) (place : Span)
    → IsNextStep step text bytes rest → place.offset ≡ length bytes - length rest - length text
    → place.length ≡ length text → StandsAt bytes place text rest
step_stands step text bytes rest place it begins ends = record {
  before = it.lead;
  splits = it.splits ∙ ap (λ l. it.lead ++ l) it.longest.splits;
  begins = omega (arith, begins, step_lengths step text bytes rest it);
  ends = ends;
}
