use Rattle.example_callers.proofs.PremiseLemmas.{octet_says}
use Rattle.example_callers.proofs.premises.lengths.bytes_behind_length.Goals as goal

pub read-requires-clause-premise : goal.read-requires-clause-premise
read-requires-clause-premise g c = (tt, octet_says, tt, tt, tt)
