use Rattle.format_json_extents.proofs.Scanning.{if_none_of_true}
use Rattle.format_json_extents.proofs.Walks.{next_step, token_none}
use Rattle.format_json_extents.proofs.steps.read_step.Goals as goal

pub returns-in_err-rest-clause-none : goal.returns-in_err-rest-clause-none
returns-in_err-rest-clause-none c =
    if_none_of_true _ c.from_residual.result
    (token_none c.skip_separator-start.ensures c.in_err-rest.ensures)

pub returns-clause-found : goal.returns-clause-found
returns-clause-found c =
    next_step c.skip_separator-start.ensures c.in_ok-rest.ensures c.of_text.ensures
