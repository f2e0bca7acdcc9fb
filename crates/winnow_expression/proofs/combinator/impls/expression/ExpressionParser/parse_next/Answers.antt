use Rattle.std.proofs.Common.{rules}
use Rattle.winnow_expression.specs.Covers.Expressions.{parts_ran}
use Rattle.winnow_expression.proofs.combinator.impls.expression.ExpressionParser.parse_next.Goals as goal

pub returns-clause-ran : goal.returns-clause-ran
returns-clause-ran g c =
    let first = c.args.self.now.first in
    let next = c.args.self.now.next in
    let later = c.expression_from.new in
    parts_ran g.I.Stream.reading g.E.HasKind.form g.P.Parser.does g.Pre.Parser.does
    g.Post.Parser.does g.Pix.Parser.does g.F.FoldUnary.folds g.G.FoldUnary.folds
    g.H.FoldBinary.folds _ c.args.self.now.level (
      (g.P.Parser.state first.operand, g.Pre.Parser.state first.prefix),
      (g.Post.Parser.state next.postfix, g.Pix.Parser.state next.«infix»),
    ) (g.I.Stream.view c.args.input.now) _ (
      (g.P.Parser.state later.first.operand, g.Pre.Parser.state later.first.prefix),
      (g.Post.Parser.state later.next.postfix, g.Pix.Parser.state later.next.«infix»),
    ) (g.I.Stream.view later.input) c.expression_from.ensures.ran (search rules depth 1)
