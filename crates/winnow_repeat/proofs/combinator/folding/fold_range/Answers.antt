use Rattle.std.proofs.Common.{rules}
use Rattle.winnow_repeat.proofs.FoldLemmas.{fold_many_ran}
use Rattle.winnow_repeat.proofs.combinator.folding.fold_range.Goals as goal

pub returns-clause-ran : goal.returns-clause-ran
returns-clause-ran g c =
    fold_many_ran (goal.G-step g) g.F.Folding.takes g.F.Folding.rejects g.F.Folding.grows
    g.I.Stream.reading g.P.Parser.does g.E.HasKind.form c.args.occurrences _ _ _ _ _ _ _ _ _ _
    c.greatest-greatest.ensures.value (search rules depth 1) _ (search rules depth 1)
    c.fold_items.ensures.ran
