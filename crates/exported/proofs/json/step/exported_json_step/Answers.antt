use Rattle.std.proofs.Common.{refl}
use Rattle.exported.proofs.Items.{step_stands}
use Rattle.exported.proofs.json.step.exported_json_step.Goals as goal

pub returns-in-Some-clause-step : goal.returns-in-Some-clause-step
returns-in-Some-clause-step c _ = record {
  text = _;
  rest = _;
  step = _;
  is_next = c.in-Some.ensures.found;
  is_number = c.number_of_step.ensures;
  place = step_stands _ _ _ _ _ c.in-Some.ensures.found refl refl;
}
