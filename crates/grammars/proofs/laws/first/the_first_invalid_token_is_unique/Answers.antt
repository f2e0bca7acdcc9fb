use Rattle.grammars.specs.Prefixes.First.{one_first_invalid}
use Rattle.grammars.proofs.laws.first.the_first_invalid_token_is_unique.Goals as goal

pub returns : goal.returns
returns g c = λ tokens front rest other end one two. one_first_invalid one two
