use Rattle.std.proofs.Common.{◌≡◌, ◌<◌, ℕ, pos, length}
use Rattle.std.specs.Str.{chars}
use Rattle.format_calculator.specs.Calculator.{StandsFor, behind, is_digit, number_from}
use Rattle.format_calculator.proofs.calc.items.digits.Given as goal

abbrev pub invariant-digits : goal.invariant-digits
invariant-digits l =
    (behind is_digit (chars l.input.now) ≡ behind is_digit (chars l.fn.input.now))
    × ((k : ℕ) → l.fn.first ≡ pos k → k < 10 → (n : ℕ) × StandsFor l.value n
    × (number_from n (chars l.input.now) ≡ number_from k (chars l.fn.input.now)))

abbrev pub decreases-digits : goal.decreases-digits
decreases-digits l = length (chars l.input.now)
