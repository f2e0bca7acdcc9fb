use Rattle.parser_definitions.specs.SeparatedFold.{JoinsLinks}
use Rattle.winnow_separated.proofs.FoldLemmas.{first_ran}
use Rattle.winnow_separated.proofs.combinator.impls.separated_foldl1.SeparatedFoldl1Parser.parse_next.Goals as goal

pub returns-clause-ran : goal.returns-clause-ran
returns-clause-ran g c =
    first_ran g.I.Stream.reading g.P.Parser.does
    (JoinsLinks (goal.H-step g) g.P.Parser.does g.S.Parser.does) g.E.HasKind.form _ _ _ _ _ _ _ _
    c.in_ok-first.ensures.ran c.join_left.ensures.ran
