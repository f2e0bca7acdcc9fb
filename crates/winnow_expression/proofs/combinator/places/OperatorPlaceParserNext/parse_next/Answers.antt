use Rattle.std.proofs.Common.{rules, arith}
use Rattle.winnow_expression.specs.Covers.Parts.{nothing_ran}
use Rattle.winnow_expression.proofs.combinator.places.OperatorPlaceParserNext.parse_next.Goals as goal

pub returns-clause-ran : goal.returns-clause-ran
returns-clause-ran g c =
    nothing_ran g.I.Stream.reading g.P.Parser.does g.R.Parser.does g.E.HasKind.form _ _ _ _ _ _ _ _
    (g.E.HasKind.kind c.in-Err.error) (g.E.HasKind.kind c.in-Err-parse_next.error) (omega arith)
    c.in-Err.ensures.ran (search rules depth 1) c.reset.ensures c.checkpoint-start.ensures
    c.in-Err-parse_next.ensures.ran (search rules depth 1) c.reset-in-Err-parse_next.ensures
