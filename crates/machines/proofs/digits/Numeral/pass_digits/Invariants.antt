use Rattle.std.proofs.Common.{◌≡◌, ◌++◌, List, ℕ, length}
use Rattle.machines.specs.Digits.{digit_numerals}
use Rattle.machines.specs.Numbers.{Steps}
use Rattle.machines.specs.declared.digits.Stage.TheVariants.{Digits}
use Rattle.machines.proofs.digits.Numeral.pass_digits.Given as goal

abbrev pub invariant-digits : goal.invariant-digits
invariant-digits g l = (front : List ℕ) × (l.fn.bytes ≡ front ++ l.rest)
    × Steps (digit_numerals (g.R.Radix.digits l.self.radix) l.self.limit
    (g.T.Machine.grammar l.self.mark)) (Digits l.fn.from) front (Digits l.number)

abbrev pub decreases-digits : goal.decreases-digits
decreases-digits g l = length l.rest
