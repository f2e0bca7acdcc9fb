use Rattle.winnow_expression_trees.proofs.PremisesDecidedLemmas.{value_moves}
use Rattle.winnow_expression_trees.proofs.laws.parts.a_value_consumes.Goals as goal

pub returns : goal.returns
returns g c s x moves =
    value_moves g.I.Stream.reading g.U.Clone.is_clone g.U.Clone.is_infallible
    g.P.Parser.does g.E.HasKind.form s x moves
