use Rattle.std.proofs.Common.{◌≡◌, ◌≤◌, ◌<◌, ◌-◌}
use Rattle.std.specs.Prelude.{◌^◌}
use Rattle.format_calculator.specs.Calculator.{factorial}
use Rattle.format_calculator.proofs.calc.numbers.factorial_within.Given as goal

abbrev pub invariant-factors : goal.invariant-factors
invariant-factors l =
    (l.product ≡ factorial l.factor) × (l.factor ≤ l.number) × (l.product < 2 ^ 64)

abbrev pub decreases-factors : goal.decreases-factors
decreases-factors l = l.number - l.factor
