use Rattle.machines.specs.Texts.{text_past, text_past_ended}
use Rattle.machines.proofs.text.is_past.Goals as goal

pub returns-clause-done : goal.returns-clause-done
returns-clause-done c = text_past c.args.text.now c.args.at

pub returns-clause-over : goal.returns-clause-over
returns-clause-over c = text_past_ended c.args.text.now c.args.at
