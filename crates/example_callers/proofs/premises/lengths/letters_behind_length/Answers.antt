use Rattle.example_callers.proofs.PremiseLemmas.{octet_says}
use Rattle.example_callers.proofs.premises.lengths.letters_behind_length.Goals as goal

pub read-requires-clause-premise : goal.read-requires-clause-premise
read-requires-clause-premise c = (tt, octet_says, (λ t u e. e))
