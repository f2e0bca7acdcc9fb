use Rattle.format_json_extents.proofs.StepLists.{text_tells}
use Rattle.format_json_extents.proofs.laws.steps_in_turn_are_those_of_the_text.Goals as goal

pub returns : goal.returns
returns c = λ level bytes is. text_tells level bytes is
