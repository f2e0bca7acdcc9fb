use Rattle.format_json_extents.proofs.Scanning.{whole_if_rest_empty}
use Rattle.format_json_extents.proofs.steps.is_over.Goals as goal

pub returns : goal.returns
returns c = whole_if_rest_empty c.is_empty.result c.skip_whitespace.ensures c.is_empty.ensures
