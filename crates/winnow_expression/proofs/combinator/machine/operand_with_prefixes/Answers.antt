use Rattle.parser_definitions.specs.Does.{Ran}
use Rattle.stream_errors.specs.Form.{assert_kind}
use Rattle.std.proofs.Common.{rules, refl}
use Rattle.streams.specs.Input.{is_end_of_refl, is_end_of_trans}
use Rattle.winnow_expression.specs.Calls.{calls_of}
use Rattle.winnow_expression.specs.Machine.{after_prefix, operand_fails, operand_read}
use Rattle.winnow_expression.specs.Units.{ends_less}
use Rattle.winnow_expression.proofs.StepLemmas.{prefix_consumes, step_as}
use Rattle.winnow_expression.proofs.combinator.machine.operand_with_prefixes.Goals as goal

pub prefixes-init : goal.prefixes-init
prefixes-init g c = (
  λ answer after t j runs. runs,
  is_end_of_refl g.I.Stream.reading (g.I.Stream.view c.args.input.now),
  c.requires,
)

pub returns-in_err-value-clause-ran : goal.returns-in_err-value-clause-ran
returns-in_err-value-clause-ran g c =
    c.prefixes.invariant.0 _ _ _ _ (operand_fails (calls_of c.prefixes.call
    c.prefixes.operators.items) _ (g.P.Parser.state c.prefixes.first) _
    (g.I.Stream.view c.prefixes.input) _ _ (g.E.HasKind.kind c.in_err-value.field-0.0)
    c.in_err-value.ensures.ran (search rules depth 1))

pub returns-in_err-value-clause-ends : goal.returns-in_err-value-clause-ends
returns-in_err-value-clause-ends g c =
    is_end_of_trans c.operand_step.ensures.ends c.prefixes.invariant.1

pub returns-in-Some-clause-ran : goal.returns-in-Some-clause-ran
returns-in-Some-clause-ran g c =
    c.prefixes.invariant.0 _ _ _ _ (operand_read (calls_of c.prefixes.call
    c.prefixes.operators.items) _ (g.P.Parser.state c.prefixes.first) _
    (g.I.Stream.view c.prefixes.input) _ _ c.in-Some.value
    (step_as g.I.Stream.reading.units (Ran g.I.Stream.reading g.P.Parser.does g.E.HasKind.form)
    (assert_kind g.E.HasKind.form) c.in-Some.is c.in_ok-value.ensures.ran)
    (ends_less g.I.Stream.reading _ _ c.operand_step.ensures.ends) refl)

pub returns-in-Some-clause-ends : goal.returns-in-Some-clause-ends
returns-in-Some-clause-ends g c = is_end_of_trans c.operand_step.ensures.ends c.prefixes.invariant.1

pub prefixes-smaller : goal.prefixes-smaller
prefixes-smaller g c =
    prefix_consumes g.I.Stream.reading.units
    (Ran g.I.Stream.reading g.P.Parser.does g.E.HasKind.form) (assert_kind g.E.HasKind.form)
    (step_as g.I.Stream.reading.units (Ran g.I.Stream.reading g.P.Parser.does g.E.HasKind.form)
    (assert_kind g.E.HasKind.form) c.in-None.is c.in_ok-value.ensures.ran)

pub prefixes-preserved : goal.prefixes-preserved
prefixes-preserved g c = (
  λ answer after t j runs. c.prefixes.invariant.0 answer after t j
      (after_prefix (calls_of c.prefixes.call c.prefixes.operators.items)
      (calls_of c.operand_step.new.call c.operand_step.new.operators.items) after
      (g.P.Parser.state c.prefixes.first) (g.P.Parser.state c.operand_step.new.first) t
      (g.I.Stream.view c.prefixes.input) (g.I.Stream.view c.operand_step.new.input) j answer
      (step_as g.I.Stream.reading.units (Ran g.I.Stream.reading g.P.Parser.does g.E.HasKind.form)
      (assert_kind g.E.HasKind.form) c.in-None.is c.in_ok-value.ensures.ran)
      (ends_less g.I.Stream.reading _ _ c.operand_step.ensures.ends) runs),
  is_end_of_trans c.operand_step.ensures.ends c.prefixes.invariant.1,
  c.operand_step.ensures.again,
)
