use Rattle.exported.proofs.HeadExtent.{head_calls}
use Rattle.exported.proofs.http.extent.calls_in_turn_are_of_their_bytes.Goals as goal

pub returns : goal.returns
returns c kind pieces state calls more = head_calls kind pieces state calls more
