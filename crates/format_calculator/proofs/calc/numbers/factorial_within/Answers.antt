use Rattle.std.proofs.Common.{arith, ap, ◌∙◌, ◌≡◌}
use Rattle.format_calculator.specs.Calculator.{factorial}
use Rattle.format_calculator.proofs.Values.{factorial_none}
use Rattle.format_calculator.proofs.calc.numbers.factorial_within.Goals as goal

pub returns-in-None : goal.returns-in-None
returns-in-None c =
    factorial_none c.factors.factor c.args.number _ c.factors.product (omega arith)
    c.factors.invariant.0 (omega arith) c.in-None.ensures

pub returns : goal.returns
returns c =
    let same : c.factors.factor ≡ c.args.number = omega (arith, c.factors.invariant.1) in
    let is = c.factors.invariant.0 ∙ ap factorial same in
    (omega (arith, is, c.factors.invariant.2), is)
