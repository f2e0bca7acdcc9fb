use Rattle.winnow_token.proofs.UnstableLemmas.{complete_err_unstable}
use Rattle.winnow_token.proofs.laws.complete_err_is_not_stable.Goals as goal

pub returns : goal.returns
returns g c = λ k each. complete_err_unstable g.I.Stream.seen_as g.I.Stream.reading _ k each
