use Rattle.grammars.specs.Prefixes.First.{both_stops_in_first, both_stops_in_second}
use Rattle.grammars.proofs.laws.first.first_invalid_in_sequences.Goals as goal

pub returns : goal.returns
returns g c = record {
  first = λ output by some tokens front rest it none.
      both_stops_in_first output by some it none;
  second = λ output by tokens front mid more rest o a it next.
      both_stops_in_second output by o a it next;
}
