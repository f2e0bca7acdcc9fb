use Rattle.grammars.specs.Prefixes.Parts.{members_prefix, spelled_prefix}
use Rattle.grammars.proofs.PrefixesPartsLemmas.{token_of_prefix}
use Rattle.grammars.proofs.laws.prefixes_of_tokens.Goals as goal

pub returns : goal.returns
returns g c =
    let these = g.S.TokenClass.members in record {
      literal = spelled_prefix;
      one = λ seen front. token_of_prefix seen (λ k. these (seen k)) front;
      run = λ least slices front.
          members_prefix g.S.TokenClass.reading these least slices front;
    }
