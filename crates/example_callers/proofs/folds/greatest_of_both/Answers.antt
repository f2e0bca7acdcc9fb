use Rattle.std.proofs.Common.{rules}
use Rattle.std.proofs.lemmas.Option.{IfSome_then}
use Rattle.example_callers.proofs.FoldLemmas.{both_same}
use Rattle.example_callers.proofs.folds.greatest_of_both.Goals as goal

pub returns : goal.returns
returns g c =
    IfSome_then c.fold_both.result c.fold_both.ensures (λ both (first, links, p, q, left, right).
    both_same _ (λ s t a d b m stepped. search rules) _ _ _ _ _ _ _ left right)
