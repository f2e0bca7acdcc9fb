use Rattle.winnow_expression_trees.specs.Premises.Laws.{law_stateless}
use Rattle.winnow_expression_trees.proofs.laws.parts.deterministic_parts_are_stateless.Goals as goal

pub returns : goal.returns
returns g c s premise stays =
    law_stateless g.I.Stream.reading (g.met.P.Parser.lawful.law premise) g.E.HasKind.form s stays
