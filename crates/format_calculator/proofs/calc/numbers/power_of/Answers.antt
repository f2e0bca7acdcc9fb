use Rattle.std.proofs.Common.{rules, arith}
use Rattle.format_calculator.proofs.Values.{unit_as}
use Rattle.format_calculator.proofs.calc.numbers.power_of.Goals as goal

pub returns-in-Err-try_from : goal.returns-in-Err-try_from
returns-in-Err-try_from c =
    unit_as c.args.base c.args.exponent _ c.in-Ok.number c.unit_power.result (search rules)
    (omega arith) (search rules depth 1) c.unit_power.ensures
