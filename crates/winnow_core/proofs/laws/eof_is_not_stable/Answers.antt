use Rattle.winnow_core.proofs.UnstableLemmas.{eof_unstable}
use Rattle.winnow_core.proofs.laws.eof_is_not_stable.Goals as goal

pub returns : goal.returns
returns g c = λ slice x shown each. eof_unstable g.I.Stream.reading _ slice x shown each
