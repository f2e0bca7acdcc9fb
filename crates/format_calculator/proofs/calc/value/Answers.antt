use Rattle.std.proofs.Common.{rules, arith, refl, Ok, Err}
use Rattle.streams.specs.Text.{text_input}
use Rattle.stream_errors.specs.Form.{marked_kind}
use Rattle.format_calculator.proofs.Formulas.{left_boundary, no_output, value_as, value_none}
use Rattle.format_calculator.proofs.Formulas.{value_ok}
use Rattle.format_calculator.proofs.calc.value.Goals as goal

pub returns-then-left-eq0-clause-ok : goal.returns-then-left-eq0-clause-ok
returns-then-left-eq0-clause-ok g c =
    value_as c.args.text.now c.in-Ok.value _ (search rules depth 1)
    (value_ok c.args.text.now (text_input c.white.new.input.now)
    (text_input c.formula.new.input.now) c.in-Ok.value (Ok c.in-Ok.value) refl c.white.ensures
    (omega arith) c.in-Ok.ensures.reads)

pub returns-else-left-eq0-clause-refused : goal.returns-else-left-eq0-clause-refused
returns-else-left-eq0-clause-refused g c = (
  value_none c.args.text.now (text_input c.white.new.input.now)
      (text_input c.formula.new.input.now) (Ok c.in-Ok.value) tt
      (λ v e none. omega (arith, none)) c.white.ensures c.in-Ok.ensures.reads,
  left_boundary c.args.text.now (text_input c.white.new.input.now)
      (text_input c.formula.new.input.now) _ c.white.ensures c.in-Ok.ensures.ends (omega arith),
)

pub returns-else-is_memory-clause-refused : goal.returns-else-is_memory-clause-refused
returns-else-is_memory-clause-refused g c = (
  value_none c.args.text.now (text_input c.white.new.input.now)
      (text_input c.formula.new.input.now) (Err (marked_kind c.in-Err.error.is_memory))
      (search rules depth 1) (λ v e none. no_output _ v e) c.white.ensures c.in-Err.ensures.reads,
  left_boundary c.args.text.now (text_input c.white.new.input.now)
      (text_input c.formula.new.input.now) _ c.white.ensures c.in-Err.ensures.ends (omega arith),
)
