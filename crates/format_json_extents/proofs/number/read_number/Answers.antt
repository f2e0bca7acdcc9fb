use Rattle.format_json_extents.proofs.Scanning.{longest_of_rest_after}
use Rattle.format_json_extents.proofs.number.read_number.Goals as goal

pub returns-clause-found : goal.returns-clause-found
returns-clause-found c = longest_of_rest_after c.in_ok-rest.ensures
