use Rattle.stream_errors.specs.Form.{assert_kind}
use Rattle.std.proofs.Common.{rules}
use Rattle.winnow_expression.specs.Calls.{open_of, opens_of}
use Rattle.winnow_expression.specs.Grammar.{folding}
use Rattle.streams.specs.Input.{is_end_of_trans}
use Rattle.winnow_expression.proofs.EndLemmas.{end_fails, end_goes, opens_last}
use Rattle.winnow_expression.proofs.combinator.machine.end_all.Goals as goal

pub returns-in_err-value-clause-ran : goal.returns-in_err-value-clause-ran
returns-in_err-value-clause-ran g c =
    c.operators.invariant.0 _ _
    (end_fails (folding (g.F.FoldUnary.folds g.E.HasKind.form)
    (g.H.FoldBinary.folds g.E.HasKind.form) g.I.Stream.reading.units
    (assert_kind g.E.HasKind.form)) (opens_of c.operators.open.items)
    (opens_of c.pop.new.self.items)
    (open_of c.in-Some.above) c.operators.value (g.I.Stream.view c.operators.input)
    (g.I.Stream.view c.close.new.input) _
    (g.E.HasKind.kind c.in_err-value.field-0.0) (opens_last _ _ _ c.in-Some.ensures.items)
    (search rules depth 1)
    (search rules depth 1))

pub returns-in_err-value-clause-ends : goal.returns-in_err-value-clause-ends
returns-in_err-value-clause-ends g c = is_end_of_trans c.close.ensures.ends c.operators.invariant.1

pub operators-preserved : goal.operators-preserved
operators-preserved g c = (
  λ answer j ended. c.operators.invariant.0 answer j
      (end_goes (folding (g.F.FoldUnary.folds g.E.HasKind.form)
      (g.H.FoldBinary.folds g.E.HasKind.form) g.I.Stream.reading.units
      (assert_kind g.E.HasKind.form)) (opens_of c.operators.open.items)
      (opens_of c.pop.new.self.items)
      (open_of c.in-Some.above) c.operators.value c.in_ok-value.value
      (g.I.Stream.view c.operators.input) (g.I.Stream.view c.close.new.input) j answer
      (opens_last _ _ _ c.in-Some.ensures.items) (search rules depth 1) ended),
  is_end_of_trans c.close.ensures.ends c.operators.invariant.1,
)
