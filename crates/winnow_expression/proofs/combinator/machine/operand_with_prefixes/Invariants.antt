use Rattle.parser_definitions.specs.Does.{Ran}
use Rattle.stream_errors.specs.Form.{Answer, assert_kind}
use Rattle.streams.specs.Input.{Input, IsEndOf}
use Rattle.winnow_expression.specs.Calls.{Calls, calls_of}
use Rattle.winnow_expression.specs.Machine.{PrefixedOperand}
use Rattle.winnow_expression.specs.Units.{units_left}
use Rattle.winnow_expression.proofs.combinator.machine.operand_with_prefixes.Given as goal

abbrev pub invariant-prefixes : goal.invariant-prefixes
invariant-prefixes g l =
    ((answer : Answer _) (after : Calls _ _ _) (t : g.P.Parser.State) (j : Input _)
    → PrefixedOperand g.I.Stream.reading.units
    (Ran g.I.Stream.reading g.P.Parser.does g.E.HasKind.form) (assert_kind g.E.HasKind.form)
    (calls_of l.call l.operators.items) (g.P.Parser.state l.first) (g.I.Stream.view l.input)
    answer after t j
    → PrefixedOperand g.I.Stream.reading.units
    (Ran g.I.Stream.reading g.P.Parser.does g.E.HasKind.form) (assert_kind g.E.HasKind.form)
    (calls_of l.fn.call l.fn.operators.items) (g.P.Parser.state l.fn.first)
    (g.I.Stream.view l.fn.input) answer after t j)
    × IsEndOf g.I.Stream.reading (g.I.Stream.view l.input) (g.I.Stream.view l.fn.input)
    × g.P.Parser.can_parse l.first

abbrev pub decreases-prefixes : goal.decreases-prefixes
decreases-prefixes g l = units_left g.I.Stream.reading.units (g.I.Stream.view l.input)
