use Rattle.format_json_extents.proofs.Scanning.{if_none_of_true}
use Rattle.format_json_extents.proofs.Walks.{lead_none}
use Rattle.format_json_extents.proofs.walk.read_next.Goals as goal

pub returns-in_err-value-clause-none : goal.returns-in_err-value-clause-none
returns-in_err-value-clause-none c =
    if_none_of_true _ c.from_residual.result
    (lead_none c.args.level c.skip_separator-left.ensures c.in_err-value.ensures.none)

pub returns-clause-found : goal.returns-clause-found
returns-clause-found c = record {
  lead = c.skip_separator-left.ensures.stands.text;
  start = _;
  is_lead = c.skip_separator-left.ensures.stands.is;
  splits = c.skip_separator-left.ensures.stands.splits;
  longest = c.in_ok-value.ensures.found;
}
