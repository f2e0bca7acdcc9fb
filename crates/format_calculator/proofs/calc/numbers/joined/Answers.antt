use Rattle.std.proofs.Common.{rules, subst, sym}
use Rattle.format_calculator.specs.Calculator.{GivesOption, pair_value}
use Rattle.format_calculator.proofs.Values.{power_as}
use Rattle.format_calculator.proofs.calc.numbers.joined.Goals as goal

pub returns-in-Power : goal.returns-in-Power
returns-in-Power c =
    subst (λ p. GivesOption (pair_value p c.args.left c.args.right) c.power_of.result)
    (sym c.in-Power.is)
    (power_as c.args.left c.args.right _ _ _ (search rules depth 1) (search rules depth 1)
    c.power_of.ensures)
