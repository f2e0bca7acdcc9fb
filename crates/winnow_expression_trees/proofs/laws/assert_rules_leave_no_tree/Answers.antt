use Rattle.std.proofs.Common.{Err}
use Rattle.parser_definitions.specs.Outcome.{setting_of}
use Rattle.parser_definitions.specs.Left.{left_of}
use Rattle.winnow_expression.specs.Did.{is_here}
use Rattle.winnow_expression.specs.Did.Steps.{four_parts}
use Rattle.winnow_expression.specs.Folds.{FoldsLeaveEnds}
use Rattle.winnow_expression_trees.proofs.Accepts.{accepting_ran, accepts_or_fails}
use Rattle.winnow_expression_trees.proofs.Accepts.{asserting_accepts, failure_kind}
use Rattle.winnow_expression_trees.proofs.FourParts.{plain_parts}
use Rattle.winnow_expression_trees.proofs.Whole.{failure_ended, failure_excludes}
use Rattle.winnow_expression_trees.proofs.laws.assert_rules_leave_no_tree.Goals as goal

pub returns : goal.returns
returns g c =
    let form = g.E.HasKind.form in
    let reading = g.I.Stream.reading in
    let p1 = g.P.Parser.does in
    let p2 = g.Pre.Parser.does in
    let p3 = g.Post.Parser.does in
    let p4 = g.Pix.Parser.does in
    let f1 = g.F.FoldUnary.folds in
    let f2 = g.G.FoldUnary.folds in
    let f3 = g.H.FoldBinary.folds in
    let folds : FoldsLeaveEnds reading f1 f2 f3 = record {
      before = g.met.F.FoldUnary.leaves_ends;
      behind = g.met.G.FoldUnary.leaves_ends;
      between = g.met.H.FoldBinary.leaves_ends;
    } in
    let plain = plain_parts reading form p1 p2 p3 p4 f1 f2 f3 g.A.Likeness.alike in
    record {
      asserts = λ s pr i k t j ran.
          let more = asserting_accepts reading form p1 p2 p3 p4 f1 f2 f3 s i (Err k) t j ran in
          failure_excludes (four_parts reading (setting_of form i) p1 p2 p3 p4 folds)
          (plain s.0.0 s.0.1 s.1.0 s.1.1 pr) s.2 (left_of i) k t j (is_here (setting_of form i)
          more.1 more.2) more.3;
      failures = λ s pr i k t j ran.
          failure_excludes (four_parts reading (setting_of form i) p1 p2 p3 p4 folds)
          (plain s.0.0 s.0.1 s.1.0 s.1.1 pr) s.2 (left_of i) k t j (is_here (setting_of form i)
          ran.1 ran.2) ran.3;
      ends = λ s pr i k t j ran.
          failure_ended (four_parts reading (setting_of form i) p1 p2 p3 p4 folds)
          (plain s.0.0 s.0.1 s.1.0 s.1.1 pr) s.2 (left_of i) k t j (is_here (setting_of form i)
          ran.1 ran.2) ran.3;
      kind = failure_kind reading form p1 p2 p3 p4 f1 f2 f3;
      within = asserting_accepts reading form p1 p2 p3 p4 f1 f2 f3;
      run = accepting_ran reading form p1 p2 p3 p4 f1 f2 f3;
      either = λ s i answer t j.
          accepts_or_fails reading form p1 p2 p3 p4 f1 f2 f3 s i answer t j folds;
    }
