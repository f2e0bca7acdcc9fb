-- Laws of `one_of`.
use Rattle.std.specs.Prelude.{Bool, length}
use Rattle.std.proofs.Common.{ap, arith}
use Rattle.grammars.specs.Grammar.{TakesTokens, TokenOf}

pub token_of_takes : {X K T : Type 0} (seen : K → T) (tells : X → K → Bool → Type 0) (set : X)
    → TakesTokens (TokenOf seen tells set)
unfolding TokenOf
token_of_takes seen tells set = record {
  fewer = λ tokens k rest (has, e). omega (arith, ap (λ l. length l) e);
}
