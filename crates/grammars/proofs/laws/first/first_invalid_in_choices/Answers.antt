use Rattle.grammars.specs.Prefixes.First.{either_stops_in_first, either_stops_in_second}
use Rattle.grammars.proofs.PrefixesFirstLemmas.{optional_stops}
use Rattle.grammars.proofs.laws.first.first_invalid_in_choices.Goals as goal

pub returns : goal.returns
returns g c = record {
  second = λ tokens front rest other end one two less. either_stops_in_second one two less;
  first = λ tokens front rest other end one two less. either_stops_in_first one two less;
  option = λ tokens front rest it. optional_stops it;
}
