use Rattle.exported.proofs.JsonExtent.{value_calls}
use Rattle.exported.proofs.json.extent.calls_in_turn_are_of_their_bytes.Goals as goal

pub returns : goal.returns
returns c opened last pieces state calls more = value_calls opened last pieces state calls more
