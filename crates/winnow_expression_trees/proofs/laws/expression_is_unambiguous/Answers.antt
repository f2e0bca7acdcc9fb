use Rattle.std.proofs.Common.{Err}
use Rattle.parser_definitions.specs.Left.{left_of}
use Rattle.parser_definitions.specs.Outcome.{setting_of}
use Rattle.winnow_expression.specs.Did.{is_here}
use Rattle.winnow_expression.specs.Did.Steps.{four_parts}
use Rattle.winnow_expression.specs.Folds.{FoldsLeaveEnds}
use Rattle.winnow_expression_trees.proofs.EndsOnce.{ends_once}
use Rattle.winnow_expression_trees.proofs.FourParts.{plain_parts}
use Rattle.winnow_expression_trees.proofs.Whole.{expression_exact, expression_fails}
use Rattle.winnow_expression_trees.proofs.laws.expression_is_unambiguous.Goals as goal

pub returns : goal.returns
returns g c =
    let form = g.E.HasKind.form in
    let reading = g.I.Stream.reading in
    let plain = plain_parts reading form g.P.Parser.does g.Pre.Parser.does g.Post.Parser.does
    g.Pix.Parser.does g.F.FoldUnary.folds g.G.FoldUnary.folds g.H.FoldBinary.folds
    g.A.Likeness.alike in
    let folds : FoldsLeaveEnds reading g.F.FoldUnary.folds g.G.FoldUnary.folds
    g.H.FoldBinary.folds = record {
      before = g.met.F.FoldUnary.leaves_ends;
      behind = g.met.G.FoldUnary.leaves_ends;
      between = g.met.H.FoldBinary.leaves_ends;
    } in
    record {
      exact = λ s pr i answer t j ran.
          expression_exact (four_parts reading (setting_of form i) g.P.Parser.does
          g.Pre.Parser.does g.Post.Parser.does g.Pix.Parser.does folds)
          (plain s.0.0 s.0.1 s.1.0 s.1.1 pr) s.2 (left_of i) answer t j
          (is_here (setting_of form i) ran.1 ran.2) ran.3;
      fails = λ s pr i k t j ran other.
          expression_fails k (expression_exact (four_parts reading (setting_of form i)
          g.P.Parser.does g.Pre.Parser.does g.Post.Parser.does g.Pix.Parser.does folds)
          (plain s.0.0 s.0.1 s.1.0 s.1.1 pr) s.2 (left_of i) (Err k) t j
          (is_here (setting_of form i) ran.1 ran.2) ran.3) other;
      ended = λ s pr. ends_once (plain s.0.0 s.0.1 s.1.0 s.1.1 pr);
    }
