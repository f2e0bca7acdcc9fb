use Rattle.example_callers.proofs.FoldLemmas.{folds_both}
use Rattle.example_callers.proofs.folds.fold_both.Goals as goal

pub parse_next-to_left-requires : goal.parse_next-to_left-requires
parse_next-to_left-requires g c = (tt, tt, rw c.separated_foldl1.ensures.op c.requires)

pub parse_next-to_right-requires : goal.parse_next-to_right-requires
parse_next-to_right-requires g c = (tt, tt, rw c.separated_foldr1.ensures.op c.requires)

pub returns-in-Ok-Ok : goal.returns-in-Ok-Ok
returns-in-Ok-Ok g c =
    folds_both _ _ _ c.separated_folds_agree.ensures.of_outcomes _ _ _ _ _ _ _ _ _ _ _ _
    c.separated_foldl1.ensures.separator c.separated_foldl1.ensures.op
    c.separated_foldr1.ensures.separator c.separated_foldr1.ensures.op
    (rw c.in-Ok-Ok.is-0 at c.parse_next-to_left.ensures.ran).3
    (rw c.in-Ok-Ok.is-1 at c.parse_next-to_right.ensures.ran).3
