use Rattle.winnow_token.proofs.UnstableLemmas.{rest_unstable}
use Rattle.winnow_token.proofs.laws.rest_is_not_stable.Goals as goal

pub returns : goal.returns
returns g c = λ none one x nothing shown each. rest_unstable g.I.Stream.reading _ none one x nothing
    shown each
