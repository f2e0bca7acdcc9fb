use Rattle.example_callers.proofs.LongerLemmas.{built_once, folds_alike, result_wider}
use Rattle.example_callers.proofs.longer.fold_four.Goals as goal

pub call_both-requires-clause-callable : goal.call_both-requires-clause-callable
call_both-requires-clause-callable g c = (
  (
    tt,
    rw c.fold-first.ensures.init c.requires.callable.0,
    rw c.fold-first.ensures.op c.requires.callable.1,
  ),
  (
    tt,
    rw c.fold-second.ensures.init c.requires.callable.0,
    rw c.fold-second.ensures.op c.requires.callable.1,
  ),
)

pub call_both-requires-clause-premise : goal.call_both-requires-clause-premise
call_both-requires-clause-premise g c = (
  tt,
  (λ s r q h k a b. (c.requires.made s r q h k a b).1),
  folds_alike _ _ c.requires.made c.requires.folded,
)

pub returns : goal.returns
returns g c = record {
  same = result_wider (built_once _ _ c.requires.made c.requires.folded)
      c.call_both.ensures.same;
}
