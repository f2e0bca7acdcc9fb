use Rattle.exported.proofs.Extent.{calls_in_turn}
use Rattle.exported.proofs.resp.extent.calls_in_turn_are_of_their_bytes.Goals as goal

pub returns : goal.returns
returns c protocol pieces state calls more = calls_in_turn protocol pieces state calls more
