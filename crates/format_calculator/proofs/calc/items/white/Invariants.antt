use Rattle.std.proofs.Common.{◌≡◌, length}
use Rattle.std.specs.Str.{chars}
use Rattle.format_calculator.specs.Calculator.{behind, is_white}
use Rattle.format_calculator.proofs.calc.items.white.Given as goal

abbrev pub invariant-spaces : goal.invariant-spaces
invariant-spaces l = behind is_white (chars l.input.now) ≡ behind is_white (chars l.fn.input.now)

abbrev pub decreases-spaces : goal.decreases-spaces
decreases-spaces l = length (chars l.input.now)
