use Rattle.exported.proofs.RecordExtent.{record_calls}
use Rattle.exported.proofs.csv.extent.calls_in_turn_are_of_their_bytes.Goals as goal

pub returns : goal.returns
returns c d pieces state calls more = record_calls d pieces state calls more
