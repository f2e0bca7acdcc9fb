use Rattle.parser_definitions.specs.Does.{Ran}
use Rattle.stream_errors.specs.Form.{assert_kind}
use Rattle.std.proofs.Common.{rules, refl}
use Rattle.winnow_expression.specs.Calls.{calls_of}
use Rattle.winnow_expression.proofs.TurnLemmas.{fails_step, infix_step, nothing_step, postfix_step}
use Rattle.winnow_expression.proofs.combinator.machine.turn_step.Goals as goal

pub returns-in_err-parse_next-clause-ran : goal.returns-in_err-parse_next-clause-ran
returns-in_err-parse_next-clause-ran g c =
    fails_step g.I.Stream.reading.units (Ran g.I.Stream.reading g.Q.Parser.does g.E.HasKind.form)
    (g.G.FoldUnary.folds g.E.HasKind.form) (assert_kind g.E.HasKind.form)
    (calls_of c.args.call.now c.args.operators.now.items)
    c.args.left _ _ _ _ _ (g.E.HasKind.kind c.in_err-parse_next.field-0.0)
    c.in_err-parse_next.ensures.ran (search rules depth 1)

pub returns-in-Nothing-clause-ran : goal.returns-in-Nothing-clause-ran
returns-in-Nothing-clause-ran g c =
    nothing_step g.I.Stream.reading.units (Ran g.I.Stream.reading g.Q.Parser.does g.E.HasKind.form)
    (g.G.FoldUnary.folds g.E.HasKind.form) (assert_kind g.E.HasKind.form)
    (calls_of c.args.call.now c.args.operators.now.items)
    c.args.left _ _ _ _ _ (search rules depth 1) refl

pub returns-in-Postfix-clause-ran : goal.returns-in-Postfix-clause-ran
returns-in-Postfix-clause-ran g c =
    postfix_step g.I.Stream.reading.units (Ran g.I.Stream.reading g.Q.Parser.does g.E.HasKind.form)
    (g.G.FoldUnary.folds g.E.HasKind.form) (assert_kind g.E.HasKind.form)
    (calls_of c.args.call.now c.args.operators.now.items)
    c.in-Postfix.power _ _ c.in-Postfix.fold _ _ c.args.left
    (g.Q.Parser.state c.args.next.now) (g.Q.Parser.state c.parse_next.new.self)
    (g.I.Stream.view c.args.input.now)
    (g.I.Stream.view c.parse_next.new.input) _ _ (search rules depth 1) (search rules depth 1)
    (search rules depth 1) c.checkpoint-start.ensures
    c.eof_offset-units.ensures c.postfix_turn.ensures.ran

pub returns-clause-ran : goal.returns-clause-ran
returns-clause-ran g c =
    infix_step g.I.Stream.reading.units (Ran g.I.Stream.reading g.Q.Parser.does g.E.HasKind.form)
    (g.G.FoldUnary.folds g.E.HasKind.form) (assert_kind g.E.HasKind.form)
    (calls_of c.args.call.now c.args.operators.now.items)
    _ c.in-Infix.operator _ _ c.args.left
    (g.Q.Parser.state c.args.next.now) (g.Q.Parser.state c.parse_next.new.self)
    (g.I.Stream.view c.args.input.now)
    (g.I.Stream.view c.parse_next.new.input) _ _ (search rules depth 1) c.checkpoint-start.ensures
    c.eof_offset-units.ensures c.infix_turn.ensures.ran
