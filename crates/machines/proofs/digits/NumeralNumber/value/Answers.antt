use Rattle.std.proofs.Common.{inr}
use Rattle.machines.specs.Marks.{no_value}
use Rattle.machines.proofs.digits.NumeralNumber.value.Goals as goal

pub returns-in-Digits : goal.returns-in-Digits
returns-in-Digits g c = no_value (g.R.Radix.digits c.args.self.now.radix)
    c.args.self.now.limit (g.T.Machine.grammar c.args.self.now.mark)
    (g.met.R.Radix.are_digits c.args.self.now.radix)
    (g.met.T.Machine.lawful c.args.self.now.mark c.requires.0) c.requires.1
    c.requires.2 c.args.at
    (inr (c.in-Digits.field-0, c.in-Digits.is))
