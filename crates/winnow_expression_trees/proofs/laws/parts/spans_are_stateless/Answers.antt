use Rattle.winnow_expression_trees.proofs.PremisesLemmas.{span_stateless, with_span_stateless}
use Rattle.winnow_expression_trees.proofs.laws.parts.spans_are_stateless.Goals as goal

pub returns : goal.returns
returns g c = record {
  span = λ s c. span_stateless g.I.Stream.reading g.P.Parser.does g.E.HasKind.form s
      g.A.Likeness.alike c;
  with_span = λ s c. with_span_stateless g.I.Stream.reading g.P.Parser.does g.E.HasKind.form s
      g.A.Likeness.alike c;
}
