use Rattle.std.specs.Prelude.{List, ℕ}
use Rattle.std.proofs.Common.{subst, sym}
use Rattle.example_callers.proofs.PremiseLemmas.{counted_alike}
use Rattle.example_callers.specs.Words.{Word}
use Rattle.winnow.specs.Read.{reads_by}
use Rattle.example_callers.proofs.premises.outputs.letters_of_two.Goals as goal

pub read-requires-clause-premise : goal.read-requires-clause-premise
read-requires-clause-premise c = (
  tt,
  (λ t u e. e),
  tt,
  λ tokens o p rest other u x y none some.
      let P : List ℕ → Type 0 = λ l. Word l u some.0 in
      none u some.0
      (subst P (sym ((counted_alike _).alike tokens o p rest other x y)) some.1),
)

pub returns : goal.returns
returns c = reads_by c.read.ensures.reads (rw (c.and_then.ensures.outer, c.take.ensures))
