use Rattle.std.proofs.Common.{rules}
use Rattle.winnow_separated.proofs.FoldLemmas.{foldr1_fails, foldr1_ran}
use Rattle.winnow_separated.proofs.combinator.impls.separated_foldr1.SeparatedFoldr1Parser.parse_next.Goals as goal

pub returns-in_err-links-clause-ran : goal.returns-in_err-links-clause-ran
returns-in_err-links-clause-ran g c =
    foldr1_fails g.row.A.Denot g.I.Stream.reading g.P.Parser.does g.S.Parser.does (goal.H-step g)
    g.E.HasKind.form _ _ _ _ _ _ c.in_ok-first.ensures.ran _
    (g.E.HasKind.kind c.in_err-links.field-0.0) _ c.in_err-links.ensures.ran (search rules depth 1)

pub returns-clause-ran : goal.returns-clause-ran
returns-clause-ran g c =
    foldr1_ran g.row.A.Denot g.I.Stream.reading g.P.Parser.does g.S.Parser.does (goal.H-step g)
    g.E.HasKind.form _ _ _ _ _ _ c.in_ok-first.ensures.ran _ c.in_ok-links.links
    c.join_right.result _ c.in_ok-links.ensures.ran c.join_right.ensures.folded
