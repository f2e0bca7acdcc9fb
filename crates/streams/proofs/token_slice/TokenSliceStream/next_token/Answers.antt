use Rattle.std.proofs.Common.{rules, [], ◌∷◌, refl}
use Rattle.streams.proofs.token_slice.TokenSliceStream.next_token.Goals as goal

pub returns-clause-ends : goal.returns-clause-ends
returns-clause-ends g c = record {
  ends = record {
    dropped = c.in_ok-first.first.now ∷ [];
    tokens = search rules;
    place = refl;
    possible = refl;
  };
  cut = refl;
}
