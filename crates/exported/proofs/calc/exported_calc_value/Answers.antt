use Rattle.std.proofs.Common.{List, subst, ℕ}
use Rattle.format_calculator.specs.Calculator.{IsFormulaFault, IsValue}
use Rattle.format_calculator.specs.declared.fault.ReadError.TheVariants.{Invalid}
use Rattle.exported.proofs.calc.exported_calc_value.Goals as goal

pub returns-in-Ok-clause-value : goal.returns-in-Ok-clause-value
returns-in-Ok-clause-value c e =
    let P : List ℕ → Type 0 = λ text. IsValue text c.read.new.out.value in
    (c.in-Ok.ensures.cases.1, subst P c.in-Ok.ensures.cases.0 (c.read.ensures.value e))

pub returns-in-Ok-clause-refused : goal.returns-in-Ok-clause-refused
returns-in-Ok-clause-refused c e =
    let P : List ℕ → Type 0 = λ text. IsFormulaFault text (Invalid c.read.new.out.error_offset) in
    (c.in-Ok.ensures.cases.1, subst P c.in-Ok.ensures.cases.0 (c.read.ensures.refused e))
