use Rattle.parser_definitions.specs.Does.{Ran}
use Rattle.std.proofs.Common.{rules, refl}
use Rattle.winnow_expression.specs.Calls.{calls_of, open_of, opens_of}
use Rattle.winnow_expression.specs.Covers.Trees.{made}
use Rattle.winnow_expression.proofs.EndLemmas.{opens_last, opens_none}
use Rattle.streams.specs.Input.{is_end_of_trans, is_end_of_trans3}
use Rattle.stream_errors.specs.Form.{assert_kind}
use Rattle.winnow_expression.specs.Units.{ends_less}
use Rattle.winnow_expression.proofs.RankLemmas.{falls_on}
use Rattle.winnow_expression.proofs.StandsLemmas.{close_kept, infix_kept, operands_kept}
use Rattle.winnow_expression.proofs.StandsLemmas.{postfix_kept}
use Rattle.winnow_expression.proofs.WholeLemmas.{all_ends_whole, call_ends_whole, close_ends}
use Rattle.winnow_expression.proofs.WholeLemmas.{operands_end, stands_start, step_at}
use Rattle.winnow_expression.proofs.WholeLemmas.{turn_ends_whole}
use Rattle.winnow_expression.proofs.combinator.machine.expression_from.Goals as goal

pub returns-in_err-left-clause-ran : goal.returns-in_err-left-clause-ran
returns-in_err-left-clause-ran g c =
    let whole = made g.I.Stream.reading g.E.HasKind.form g.P.Parser.does g.Q.Parser.does
    g.F.FoldUnary.folds g.G.FoldUnary.folds g.H.FoldBinary.folds (record {
      before = g.met.F.FoldUnary.leaves_ends;
      behind = g.met.G.FoldUnary.leaves_ends;
      between = g.met.H.FoldBinary.leaves_ends;
    }) in
    let start : g.P.Parser.State × g.Q.Parser.State =
    (g.P.Parser.state c.args.first.now, g.Q.Parser.state c.args.next.now) in
    operands_end (whole c.args.level) c.args.level start (g.I.Stream.view c.args.input.now)
    (calls_of c.new-call.result c.new-operators.result.items)
    (calls_of c.operand_with_prefixes.new.call c.operand_with_prefixes.new.operators.items) _ _
    (g.E.HasKind.kind c.in_err-left.field-0.0) start
    (g.P.Parser.state c.operand_with_prefixes.new.first) (g.I.Stream.view c.args.input.now)
    (g.I.Stream.view c.operand_with_prefixes.new.input) refl
    (stands_start (whole c.args.level) c.args.level _ _ start (g.I.Stream.view c.args.input.now)
    (calls_of c.new-call.result c.new-operators.result.items) (search rules depth 1)
    c.eof_offset-units.ensures c.new-call.ensures (opens_none _ c.new-operators.ensures.items)) refl
    c.in_err-left.ensures.ran (search rules depth 1)

pub turns-init : goal.turns-init
turns-init g c =
    let whole = made g.I.Stream.reading g.E.HasKind.form g.P.Parser.does g.Q.Parser.does
    g.F.FoldUnary.folds g.G.FoldUnary.folds g.H.FoldBinary.folds (record {
      before = g.met.F.FoldUnary.leaves_ends;
      behind = g.met.G.FoldUnary.leaves_ends;
      between = g.met.H.FoldBinary.leaves_ends;
    }) in
    let start : g.P.Parser.State × g.Q.Parser.State =
    (g.P.Parser.state c.args.first.now, g.Q.Parser.state c.args.next.now) in (
      (operands_kept (whole _) _ start (g.I.Stream.view c.args.input.now)
          (calls_of c.new-call.result c.new-operators.result.items)
          (calls_of c.operand_with_prefixes.new.call c.operand_with_prefixes.new.operators.items)
          c.in_ok-left.left _
          start (g.P.Parser.state c.operand_with_prefixes.new.first)
          (g.I.Stream.view c.args.input.now) (g.I.Stream.view c.operand_with_prefixes.new.input)
          (stands_start (whole _) _ _ _ start (g.I.Stream.view c.args.input.now)
          (calls_of c.new-call.result c.new-operators.result.items) (search rules depth 1)
          c.eof_offset-units.ensures c.new-call.ensures
          (opens_none _ c.new-operators.ensures.items)) refl c.in_ok-left.ensures.ran).0,
      c.operand_with_prefixes.ensures.ends,
      c.operand_with_prefixes.ensures.again,
      c.requires.next,
    )

pub returns-in_err-value-clause-ran : goal.returns-in_err-value-clause-ran
returns-in_err-value-clause-ran g c =
    let whole = made g.I.Stream.reading g.E.HasKind.form g.P.Parser.does g.Q.Parser.does
    g.F.FoldUnary.folds g.G.FoldUnary.folds g.H.FoldBinary.folds (record {
      before = g.met.F.FoldUnary.leaves_ends;
      behind = g.met.G.FoldUnary.leaves_ends;
      between = g.met.H.FoldBinary.leaves_ends;
    }) in
    let start : g.P.Parser.State × g.Q.Parser.State =
    (g.P.Parser.state c.args.first.now, g.Q.Parser.state c.args.next.now) in
    turn_ends_whole (whole _) c.args.level start (g.I.Stream.view c.args.input.now)
    (calls_of c.turns.call c.turns.operators.items)
    (calls_of c.turn_step.new.call c.turn_step.new.operators.items) c.turns.left _
    (g.E.HasKind.kind c.in_err-value.field-0.0) (
      g.P.Parser.state c.turns.first,
      g.Q.Parser.state
          c.turns.next,
    ) (g.Q.Parser.state c.turn_step.new.next) (g.I.Stream.view c.turns.input)
    (g.I.Stream.view c.turn_step.new.input) (search rules depth 1)
    c.turns.invariant.0 c.in_err-value.ensures.ran (search rules depth 1)

pub returns-in_err-value-clause-ends : goal.returns-in_err-value-clause-ends
returns-in_err-value-clause-ends g c =
    is_end_of_trans c.turn_step.ensures.ends c.turns.invariant.1

pub turns-smaller-in-Goes : goal.turns-smaller-in-Goes
turns-smaller-in-Goes g c =
    let form = g.E.HasKind.form in
    let whole = made g.I.Stream.reading g.E.HasKind.form g.P.Parser.does g.Q.Parser.does
    g.F.FoldUnary.folds g.G.FoldUnary.folds g.H.FoldBinary.folds (record {
      before = g.met.F.FoldUnary.leaves_ends;
      behind = g.met.G.FoldUnary.leaves_ends;
      between = g.met.H.FoldBinary.leaves_ends;
    }) in
    let start : g.P.Parser.State × g.Q.Parser.State =
    (g.P.Parser.state c.args.first.now, g.Q.Parser.state c.args.next.now) in
    (postfix_kept (whole _) _ start (g.I.Stream.view c.args.input.now)
    (calls_of c.turns.call c.turns.operators.items)
    (calls_of c.turn_step.new.call c.turn_step.new.operators.items) c.turns.left c.in-Goes.value
    (g.P.Parser.state c.turns.first, g.Q.Parser.state c.turns.next)
    (g.Q.Parser.state c.turn_step.new.next) (g.I.Stream.view c.turns.input)
    (g.I.Stream.view c.turn_step.new.input) c.turns.invariant.0 (step_at g.I.Stream.reading.units
    (Ran g.I.Stream.reading g.Q.Parser.does form)
    (g.G.FoldUnary.folds form) (assert_kind form) (calls_of c.turns.call c.turns.operators.items)
    (calls_of c.turn_step.new.call c.turn_step.new.operators.items) c.turns.left
    (g.Q.Parser.state c.turns.next)
    (g.Q.Parser.state c.turn_step.new.next) (g.I.Stream.view c.turns.input)
    (g.I.Stream.view c.turn_step.new.input) _ _ c.in-Goes.is c.in_ok-value.ensures.ran)
    (ends_less g.I.Stream.reading _ _ c.turn_step.ensures.ends)).1

pub turns-preserved-in-Goes : goal.turns-preserved-in-Goes
turns-preserved-in-Goes g c =
    let form = g.E.HasKind.form in
    let whole = made g.I.Stream.reading g.E.HasKind.form g.P.Parser.does g.Q.Parser.does
    g.F.FoldUnary.folds g.G.FoldUnary.folds g.H.FoldBinary.folds (record {
      before = g.met.F.FoldUnary.leaves_ends;
      behind = g.met.G.FoldUnary.leaves_ends;
      between = g.met.H.FoldBinary.leaves_ends;
    }) in
    let start : g.P.Parser.State × g.Q.Parser.State =
    (g.P.Parser.state c.args.first.now, g.Q.Parser.state c.args.next.now) in (
      (postfix_kept (whole _) _ start (g.I.Stream.view c.args.input.now)
          (calls_of c.turns.call c.turns.operators.items)
          (calls_of c.turn_step.new.call c.turn_step.new.operators.items) c.turns.left
          c.in-Goes.value (g.P.Parser.state c.turns.first, g.Q.Parser.state c.turns.next)
          (g.Q.Parser.state c.turn_step.new.next) (g.I.Stream.view c.turns.input)
          (g.I.Stream.view c.turn_step.new.input)
          c.turns.invariant.0 (step_at g.I.Stream.reading.units
          (Ran g.I.Stream.reading g.Q.Parser.does form)
          (g.G.FoldUnary.folds form) (assert_kind form)
          (calls_of c.turns.call c.turns.operators.items)
          (calls_of c.turn_step.new.call c.turn_step.new.operators.items) c.turns.left
          (g.Q.Parser.state c.turns.next)
          (g.Q.Parser.state c.turn_step.new.next) (g.I.Stream.view c.turns.input)
          (g.I.Stream.view c.turn_step.new.input) _ _ c.in-Goes.is c.in_ok-value.ensures.ran)
          (ends_less g.I.Stream.reading _ _ c.turn_step.ensures.ends)).0,
      is_end_of_trans c.turn_step.ensures.ends c.turns.invariant.1,
      c.turns.invariant.2,
      c.turn_step.ensures.again,
    )

pub returns-in_err-left-in-Interrupted-clause-ran :
    goal.returns-in_err-left-in-Interrupted-clause-ran
returns-in_err-left-in-Interrupted-clause-ran g c =
    let form = g.E.HasKind.form in
    let whole = made g.I.Stream.reading g.E.HasKind.form g.P.Parser.does g.Q.Parser.does
    g.F.FoldUnary.folds g.G.FoldUnary.folds g.H.FoldBinary.folds (record {
      before = g.met.F.FoldUnary.leaves_ends;
      behind = g.met.G.FoldUnary.leaves_ends;
      between = g.met.H.FoldBinary.leaves_ends;
    }) in
    let start : g.P.Parser.State × g.Q.Parser.State =
    (g.P.Parser.state c.args.first.now, g.Q.Parser.state c.args.next.now) in
    let interrupted = infix_kept (whole _) _ start (g.I.Stream.view c.args.input.now)
    (calls_of c.turns.call c.turns.operators.items)
    (calls_of c.turn_step.new.call c.turn_step.new.operators.items) c.turns.left
    (g.P.Parser.state c.turns.first, g.Q.Parser.state c.turns.next)
    (g.Q.Parser.state c.turn_step.new.next) (g.I.Stream.view c.turns.input)
    (g.I.Stream.view c.turn_step.new.input) c.turns.invariant.0 (step_at g.I.Stream.reading.units
    (Ran g.I.Stream.reading g.Q.Parser.does form)
    (g.G.FoldUnary.folds form) (assert_kind form) (calls_of c.turns.call c.turns.operators.items)
    (calls_of c.turn_step.new.call c.turn_step.new.operators.items) c.turns.left
    (g.Q.Parser.state c.turns.next)
    (g.Q.Parser.state c.turn_step.new.next) (g.I.Stream.view c.turns.input)
    (g.I.Stream.view c.turn_step.new.input) _ _ c.in-Interrupted.is c.in_ok-value.ensures.ran)
    (ends_less g.I.Stream.reading _ _ c.turn_step.ensures.ends) in
    operands_end (whole _) c.args.level start (g.I.Stream.view c.args.input.now)
    (calls_of c.turn_step.new.call c.turn_step.new.operators.items)
    (calls_of c.operand_with_prefixes-in-Interrupted.new.call
    c.operand_with_prefixes-in-Interrupted.new.operators.items) _ _
    (g.E.HasKind.kind c.in_err-left-in-Interrupted.field-0.0)
    (g.P.Parser.state c.turns.first, g.Q.Parser.state c.turn_step.new.next)
    (g.P.Parser.state c.operand_with_prefixes-in-Interrupted.new.first)
    (g.I.Stream.view c.turn_step.new.input)
    (g.I.Stream.view c.operand_with_prefixes-in-Interrupted.new.input) (search rules depth 1)
    interrupted.0 refl c.in_err-left-in-Interrupted.ensures.ran (search rules depth 1)

pub returns-in_err-left-in-Interrupted-clause-ends :
    goal.returns-in_err-left-in-Interrupted-clause-ends
returns-in_err-left-in-Interrupted-clause-ends g c =
    is_end_of_trans3 c.operand_with_prefixes-in-Interrupted.ensures.ends c.turn_step.ensures.ends
    c.turns.invariant.1

pub turns-smaller-in-Interrupted : goal.turns-smaller-in-Interrupted
turns-smaller-in-Interrupted g c =
    let form = g.E.HasKind.form in
    let whole = made g.I.Stream.reading g.E.HasKind.form g.P.Parser.does g.Q.Parser.does
    g.F.FoldUnary.folds g.G.FoldUnary.folds g.H.FoldBinary.folds (record {
      before = g.met.F.FoldUnary.leaves_ends;
      behind = g.met.G.FoldUnary.leaves_ends;
      between = g.met.H.FoldBinary.leaves_ends;
    }) in
    let start : g.P.Parser.State × g.Q.Parser.State =
    (g.P.Parser.state c.args.first.now, g.Q.Parser.state c.args.next.now) in
    let interrupted = infix_kept (whole _) _ start (g.I.Stream.view c.args.input.now)
    (calls_of c.turns.call c.turns.operators.items)
    (calls_of c.turn_step.new.call c.turn_step.new.operators.items) c.turns.left
    (g.P.Parser.state c.turns.first, g.Q.Parser.state c.turns.next)
    (g.Q.Parser.state c.turn_step.new.next) (g.I.Stream.view c.turns.input)
    (g.I.Stream.view c.turn_step.new.input) c.turns.invariant.0 (step_at g.I.Stream.reading.units
    (Ran g.I.Stream.reading g.Q.Parser.does form)
    (g.G.FoldUnary.folds form) (assert_kind form) (calls_of c.turns.call c.turns.operators.items)
    (calls_of c.turn_step.new.call c.turn_step.new.operators.items) c.turns.left
    (g.Q.Parser.state c.turns.next)
    (g.Q.Parser.state c.turn_step.new.next) (g.I.Stream.view c.turns.input)
    (g.I.Stream.view c.turn_step.new.input) _ _ c.in-Interrupted.is c.in_ok-value.ensures.ran)
    (ends_less g.I.Stream.reading _ _ c.turn_step.ensures.ends) in
    falls_on (operands_kept (whole _) _ start (g.I.Stream.view c.args.input.now)
    (calls_of c.turn_step.new.call c.turn_step.new.operators.items)
    (calls_of c.operand_with_prefixes-in-Interrupted.new.call
    c.operand_with_prefixes-in-Interrupted.new.operators.items) c.in_ok-left-in-Interrupted.left _
    (g.P.Parser.state c.turns.first, g.Q.Parser.state c.turn_step.new.next)
    (g.P.Parser.state c.operand_with_prefixes-in-Interrupted.new.first)
    (g.I.Stream.view c.turn_step.new.input)
    (g.I.Stream.view c.operand_with_prefixes-in-Interrupted.new.input) interrupted.0 refl
    c.in_ok-left-in-Interrupted.ensures.ran).1 interrupted.1

pub turns-preserved-in-Interrupted : goal.turns-preserved-in-Interrupted
turns-preserved-in-Interrupted g c =
    let form = g.E.HasKind.form in
    let whole = made g.I.Stream.reading g.E.HasKind.form g.P.Parser.does g.Q.Parser.does
    g.F.FoldUnary.folds g.G.FoldUnary.folds g.H.FoldBinary.folds (record {
      before = g.met.F.FoldUnary.leaves_ends;
      behind = g.met.G.FoldUnary.leaves_ends;
      between = g.met.H.FoldBinary.leaves_ends;
    }) in
    let start : g.P.Parser.State × g.Q.Parser.State =
    (g.P.Parser.state c.args.first.now, g.Q.Parser.state c.args.next.now) in
    let interrupted = infix_kept (whole _) _ start (g.I.Stream.view c.args.input.now)
    (calls_of c.turns.call c.turns.operators.items)
    (calls_of c.turn_step.new.call c.turn_step.new.operators.items) c.turns.left
    (g.P.Parser.state c.turns.first, g.Q.Parser.state c.turns.next)
    (g.Q.Parser.state c.turn_step.new.next) (g.I.Stream.view c.turns.input)
    (g.I.Stream.view c.turn_step.new.input) c.turns.invariant.0 (step_at g.I.Stream.reading.units
    (Ran g.I.Stream.reading g.Q.Parser.does form)
    (g.G.FoldUnary.folds form) (assert_kind form) (calls_of c.turns.call c.turns.operators.items)
    (calls_of c.turn_step.new.call c.turn_step.new.operators.items) c.turns.left
    (g.Q.Parser.state c.turns.next)
    (g.Q.Parser.state c.turn_step.new.next) (g.I.Stream.view c.turns.input)
    (g.I.Stream.view c.turn_step.new.input) _ _ c.in-Interrupted.is c.in_ok-value.ensures.ran)
    (ends_less g.I.Stream.reading _ _ c.turn_step.ensures.ends) in (
      (operands_kept (whole _) _ start (g.I.Stream.view c.args.input.now)
          (calls_of c.turn_step.new.call c.turn_step.new.operators.items)
          (calls_of c.operand_with_prefixes-in-Interrupted.new.call
          c.operand_with_prefixes-in-Interrupted.new.operators.items)
          c.in_ok-left-in-Interrupted.left _
          (g.P.Parser.state c.turns.first, g.Q.Parser.state c.turn_step.new.next)
          (g.P.Parser.state c.operand_with_prefixes-in-Interrupted.new.first)
          (g.I.Stream.view c.turn_step.new.input)
          (g.I.Stream.view c.operand_with_prefixes-in-Interrupted.new.input) interrupted.0 refl
          c.in_ok-left-in-Interrupted.ensures.ran).0,
      is_end_of_trans3 c.operand_with_prefixes-in-Interrupted.ensures.ends c.turn_step.ensures.ends
          c.turns.invariant.1,
      c.operand_with_prefixes-in-Interrupted.ensures.again,
      c.turn_step.ensures.again,
    )

pub returns-in_err-left-in-Some-clause-ran : goal.returns-in_err-left-in-Some-clause-ran
returns-in_err-left-in-Some-clause-ran g c =
    let form = g.E.HasKind.form in
    let whole = made g.I.Stream.reading g.E.HasKind.form g.P.Parser.does g.Q.Parser.does
    g.F.FoldUnary.folds g.G.FoldUnary.folds g.H.FoldBinary.folds (record {
      before = g.met.F.FoldUnary.leaves_ends;
      behind = g.met.G.FoldUnary.leaves_ends;
      between = g.met.H.FoldBinary.leaves_ends;
    }) in
    let start : g.P.Parser.State × g.Q.Parser.State =
    (g.P.Parser.state c.args.first.now, g.Q.Parser.state c.args.next.now) in
    close_ends (whole _) c.args.level start (g.I.Stream.view c.args.input.now)
    (calls_of c.turns.call c.turns.operators.items)
    (calls_of c.turn_step.new.call c.turn_step.new.operators.items) c.turns.left c.in-Ends.value _
    (g.E.HasKind.kind c.in_err-left-in-Some.field-0.0)
    (open_of c.in-Some.above) (opens_of c.pop.new.self.items)
    (g.P.Parser.state c.turns.first, g.Q.Parser.state c.turns.next)
    (g.Q.Parser.state c.turn_step.new.next) (g.I.Stream.view c.turns.input)
    (g.I.Stream.view c.turn_step.new.input)
    (g.I.Stream.view c.close.new.input) (search rules depth 1) c.turns.invariant.0
    (step_at g.I.Stream.reading.units (Ran g.I.Stream.reading g.Q.Parser.does form)
    (g.G.FoldUnary.folds form) (assert_kind form) (calls_of c.turns.call c.turns.operators.items)
    (calls_of c.turn_step.new.call c.turn_step.new.operators.items) c.turns.left
    (g.Q.Parser.state c.turns.next)
    (g.Q.Parser.state c.turn_step.new.next) (g.I.Stream.view c.turns.input)
    (g.I.Stream.view c.turn_step.new.input) _ _ c.in-Ends.is c.in_ok-value.ensures.ran)
    (opens_last _ _ _ c.in-Some.ensures.items) (search rules depth 1) (search rules depth 1)

pub returns-in_err-left-in-Some-clause-ends : goal.returns-in_err-left-in-Some-clause-ends
returns-in_err-left-in-Some-clause-ends g c =
    is_end_of_trans3 c.close.ensures.ends c.turn_step.ensures.ends c.turns.invariant.1

pub turns-smaller : goal.turns-smaller
turns-smaller g c =
    let form = g.E.HasKind.form in
    let whole = made g.I.Stream.reading g.E.HasKind.form g.P.Parser.does g.Q.Parser.does
    g.F.FoldUnary.folds g.G.FoldUnary.folds g.H.FoldBinary.folds (record {
      before = g.met.F.FoldUnary.leaves_ends;
      behind = g.met.G.FoldUnary.leaves_ends;
      between = g.met.H.FoldBinary.leaves_ends;
    }) in
    let start : g.P.Parser.State × g.Q.Parser.State =
    (g.P.Parser.state c.args.first.now, g.Q.Parser.state c.args.next.now) in
    (close_kept (whole _) _ start (g.I.Stream.view c.args.input.now)
    (calls_of c.turns.call c.turns.operators.items)
    (calls_of c.turn_step.new.call c.turn_step.new.operators.items)
    (calls_of c.in-Some.above.call c.pop.new.self.items) c.turns.left c.in-Ends.value
    c.in_ok-left-in-Some.left (open_of c.in-Some.above) (opens_of c.pop.new.self.items)
    (g.P.Parser.state c.turns.first, g.Q.Parser.state c.turns.next)
    (g.Q.Parser.state c.turn_step.new.next)
    (g.I.Stream.view c.turns.input) (g.I.Stream.view c.turn_step.new.input)
    (g.I.Stream.view c.close.new.input) c.turns.invariant.0 (step_at g.I.Stream.reading.units
    (Ran g.I.Stream.reading g.Q.Parser.does form)
    (g.G.FoldUnary.folds form) (assert_kind form) (calls_of c.turns.call c.turns.operators.items)
    (calls_of c.turn_step.new.call c.turn_step.new.operators.items) c.turns.left
    (g.Q.Parser.state c.turns.next)
    (g.Q.Parser.state c.turn_step.new.next) (g.I.Stream.view c.turns.input)
    (g.I.Stream.view c.turn_step.new.input) _ _ c.in-Ends.is c.in_ok-value.ensures.ran)
    (ends_less g.I.Stream.reading _ _ c.turn_step.ensures.ends)
    (opens_last _ _ _ c.in-Some.ensures.items) (search rules depth 1)
    (ends_less g.I.Stream.reading _ _ c.close.ensures.ends) refl refl).1

pub turns-preserved : goal.turns-preserved
turns-preserved g c =
    let form = g.E.HasKind.form in
    let whole = made g.I.Stream.reading g.E.HasKind.form g.P.Parser.does g.Q.Parser.does
    g.F.FoldUnary.folds g.G.FoldUnary.folds g.H.FoldBinary.folds (record {
      before = g.met.F.FoldUnary.leaves_ends;
      behind = g.met.G.FoldUnary.leaves_ends;
      between = g.met.H.FoldBinary.leaves_ends;
    }) in
    let start : g.P.Parser.State × g.Q.Parser.State =
    (g.P.Parser.state c.args.first.now, g.Q.Parser.state c.args.next.now) in (
      (close_kept (whole _) _ start (g.I.Stream.view c.args.input.now)
          (calls_of c.turns.call c.turns.operators.items)
          (calls_of c.turn_step.new.call c.turn_step.new.operators.items)
          (calls_of c.in-Some.above.call c.pop.new.self.items) c.turns.left c.in-Ends.value
          c.in_ok-left-in-Some.left (open_of c.in-Some.above) (opens_of c.pop.new.self.items)
          (g.P.Parser.state c.turns.first, g.Q.Parser.state c.turns.next)
          (g.Q.Parser.state c.turn_step.new.next)
          (g.I.Stream.view c.turns.input) (g.I.Stream.view c.turn_step.new.input)
          (g.I.Stream.view c.close.new.input)
          c.turns.invariant.0 (step_at g.I.Stream.reading.units
          (Ran g.I.Stream.reading g.Q.Parser.does form)
          (g.G.FoldUnary.folds form) (assert_kind form)
          (calls_of c.turns.call c.turns.operators.items)
          (calls_of c.turn_step.new.call c.turn_step.new.operators.items) c.turns.left
          (g.Q.Parser.state c.turns.next)
          (g.Q.Parser.state c.turn_step.new.next) (g.I.Stream.view c.turns.input)
          (g.I.Stream.view c.turn_step.new.input) _ _ c.in-Ends.is c.in_ok-value.ensures.ran)
          (ends_less g.I.Stream.reading _ _ c.turn_step.ensures.ends)
          (opens_last _ _ _ c.in-Some.ensures.items) (search rules depth 1)
          (ends_less g.I.Stream.reading _ _ c.close.ensures.ends) refl refl).0,
      is_end_of_trans3 c.close.ensures.ends c.turn_step.ensures.ends c.turns.invariant.1,
      c.turns.invariant.2,
      c.turn_step.ensures.again,
    )

pub returns-in-None-clause-ran : goal.returns-in-None-clause-ran
returns-in-None-clause-ran g c =
    let form = g.E.HasKind.form in
    let whole = made g.I.Stream.reading g.E.HasKind.form g.P.Parser.does g.Q.Parser.does
    g.F.FoldUnary.folds g.G.FoldUnary.folds g.H.FoldBinary.folds (record {
      before = g.met.F.FoldUnary.leaves_ends;
      behind = g.met.G.FoldUnary.leaves_ends;
      between = g.met.H.FoldBinary.leaves_ends;
    }) in
    let start : g.P.Parser.State × g.Q.Parser.State =
    (g.P.Parser.state c.args.first.now, g.Q.Parser.state c.args.next.now) in
    call_ends_whole (whole _) c.args.level start (g.I.Stream.view c.args.input.now)
    (calls_of c.turns.call c.turns.operators.items)
    (calls_of c.turn_step.new.call c.turn_step.new.operators.items) c.turns.left c.in-Ends.value
    (g.P.Parser.state c.turns.first, g.Q.Parser.state c.turns.next)
    (g.Q.Parser.state c.turn_step.new.next)
    (g.I.Stream.view c.turns.input) (g.I.Stream.view c.turn_step.new.input) (search rules depth 1)
    c.turns.invariant.0
    (step_at g.I.Stream.reading.units (Ran g.I.Stream.reading g.Q.Parser.does form)
    (g.G.FoldUnary.folds form) (assert_kind form) (calls_of c.turns.call c.turns.operators.items)
    (calls_of c.turn_step.new.call c.turn_step.new.operators.items) c.turns.left
    (g.Q.Parser.state c.turns.next)
    (g.Q.Parser.state c.turn_step.new.next) (g.I.Stream.view c.turns.input)
    (g.I.Stream.view c.turn_step.new.input) _ _ c.in-Ends.is c.in_ok-value.ensures.ran)
    (opens_none _ (search rules depth 1))

pub returns-in-None-clause-ends : goal.returns-in-None-clause-ends
returns-in-None-clause-ends g c =
    is_end_of_trans c.turn_step.ensures.ends c.turns.invariant.1

pub returns-in-EndsAll-clause-ran : goal.returns-in-EndsAll-clause-ran
returns-in-EndsAll-clause-ran g c =
    let form = g.E.HasKind.form in
    let whole = made g.I.Stream.reading g.E.HasKind.form g.P.Parser.does g.Q.Parser.does
    g.F.FoldUnary.folds g.G.FoldUnary.folds g.H.FoldBinary.folds (record {
      before = g.met.F.FoldUnary.leaves_ends;
      behind = g.met.G.FoldUnary.leaves_ends;
      between = g.met.H.FoldBinary.leaves_ends;
    }) in
    let start : g.P.Parser.State × g.Q.Parser.State =
    (g.P.Parser.state c.args.first.now, g.Q.Parser.state c.args.next.now) in
    all_ends_whole (whole _) c.args.level start (g.I.Stream.view c.args.input.now)
    (calls_of c.turns.call c.turns.operators.items)
    (calls_of c.turn_step.new.call c.turn_step.new.operators.items) c.turns.left c.in-EndsAll.value
    _ (g.P.Parser.state c.turns.first, g.Q.Parser.state c.turns.next)
    (g.Q.Parser.state c.turn_step.new.next)
    (g.I.Stream.view c.turns.input) (g.I.Stream.view c.turn_step.new.input)
    (g.I.Stream.view c.end_all.new.input)
    (search rules depth 1) c.turns.invariant.0 (step_at g.I.Stream.reading.units
    (Ran g.I.Stream.reading g.Q.Parser.does form)
    (g.G.FoldUnary.folds form) (assert_kind form) (calls_of c.turns.call c.turns.operators.items)
    (calls_of c.turn_step.new.call c.turn_step.new.operators.items) c.turns.left
    (g.Q.Parser.state c.turns.next)
    (g.Q.Parser.state c.turn_step.new.next) (g.I.Stream.view c.turns.input)
    (g.I.Stream.view c.turn_step.new.input) _ _ c.in-EndsAll.is c.in_ok-value.ensures.ran)
    c.end_all.ensures.ran

pub returns-in-EndsAll-clause-ends : goal.returns-in-EndsAll-clause-ends
returns-in-EndsAll-clause-ends g c =
    is_end_of_trans3 c.end_all.ensures.ends c.turn_step.ensures.ends c.turns.invariant.1
