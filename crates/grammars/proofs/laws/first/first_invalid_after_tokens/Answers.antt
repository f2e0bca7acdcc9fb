use Rattle.grammars.specs.Prefixes.First.{itself_ends, itself_stops, members_stop}
use Rattle.grammars.proofs.laws.first.first_invalid_after_tokens.Goals as goal

pub returns : goal.returns
returns g c = record {
  other = itself_stops;
  same = itself_ends;
  run = λ least tokens front rest slices some all splits ends.
      members_stop g.S.TokenClass.reading g.S.TokenClass.members least slices some all splits ends;
}
