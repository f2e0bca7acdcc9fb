use Rattle.stream_errors.specs.Form.{assert_kind}
use Rattle.parser_definitions.specs.Does.{Ran}
use Rattle.winnow_expression_trees.proofs.FourParts.{decided_parts}
use Rattle.winnow_expression_trees.specs.OneTree.Unique.{one_tree}
use Rattle.winnow_expression_trees.proofs.laws.tree_is_unique.Goals as goal

pub returns : goal.returns
returns g c =
    let form = g.E.HasKind.form in
    let reading = g.I.Stream.reading in
    record {
      one = λ s po pp pq pi level i r u m n b c one other.
          one_tree (decided_parts reading.units (assert_kind form)
          (Ran reading g.P.Parser.does form)
          (Ran reading g.Pre.Parser.does form) (Ran reading g.Post.Parser.does form)
          (Ran reading g.Pix.Parser.does form) (g.F.FoldUnary.folds form) (g.G.FoldUnary.folds form)
          (g.H.FoldBinary.folds form) g.A.Likeness.alike g.B.Likeness.alike g.C.Likeness.alike
          g.D.Likeness.alike s po pp pq pi) level i r u m n b c one.0 one.1 other.0 other.1;
    }
