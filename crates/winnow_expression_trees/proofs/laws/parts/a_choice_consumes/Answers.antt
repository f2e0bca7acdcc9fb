use Rattle.winnow_expression_trees.proofs.PremisesDecidedLemmas.{choice_moves}
use Rattle.winnow_expression_trees.proofs.laws.parts.a_choice_consumes.Goals as goal

pub returns : goal.returns
returns g c s u one two =
    choice_moves g.I.Stream.reading g.P1.Parser.does g.P2.Parser.does g.E.HasKind.form s u
    one two
