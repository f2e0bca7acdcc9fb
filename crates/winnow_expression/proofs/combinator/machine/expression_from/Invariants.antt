use Rattle.std.proofs.Common.{Some, reverse}
use Rattle.winnow_expression.specs.Covers.Trees.{made}
use Rattle.streams.specs.Input.{IsEndOf}
use Rattle.winnow_expression.specs.Units.{units_left}
use Rattle.winnow_expression.specs.Calls.{call_of, calls_of, opens_of}
use Rattle.parser_definitions.specs.Expression.{call_at}
use Rattle.winnow_expression.proofs.Loop.{Invariant, rank}
use Rattle.winnow_expression.proofs.combinator.machine.expression_from.Given as goal

abbrev pub invariant-turns : goal.invariant-turns
invariant-turns g l =
    Invariant (made g.I.Stream.reading g.E.HasKind.form g.P.Parser.does g.Q.Parser.does
    g.F.FoldUnary.folds g.G.FoldUnary.folds g.H.FoldBinary.folds (record {
      before = g.met.F.FoldUnary.leaves_ends;
      behind = g.met.G.FoldUnary.leaves_ends;
      between = g.met.H.FoldBinary.leaves_ends;
    }) l.fn.level)
    (call_at l.fn.level (units_left g.I.Stream.reading.units (g.I.Stream.view l.fn.input)))
    (g.P.Parser.state l.fn.first, g.Q.Parser.state l.fn.next) (g.I.Stream.view l.fn.input)
    (calls_of l.call l.operators.items) (Some l.left)
    (g.P.Parser.state l.first, g.Q.Parser.state l.next) (g.I.Stream.view l.input)
    × IsEndOf g.I.Stream.reading (g.I.Stream.view l.input) (g.I.Stream.view l.fn.input)
    × g.P.Parser.can_parse l.first × g.Q.Parser.can_parse l.next

abbrev pub decreases-turns : goal.decreases-turns
decreases-turns g l =
    rank (units_left g.I.Stream.reading.units (g.I.Stream.view l.input)) (call_of l.call)
    (reverse (opens_of l.operators.items)) (Some l.left)
