use Rattle.std.proofs.Common.{refl}
use Rattle.machines.specs.Marks.{reads_digits}
use Rattle.machines.specs.declared.digits.Stage.TheVariants.{Digits}
use Rattle.machines.proofs.digits.Numeral.pass_number.Goals as goal

pub returns : goal.returns
returns g c = reads_digits (g.R.Radix.digits c.args.self.now.radix)
    c.args.self.now.limit (g.T.Machine.grammar c.args.self.now.mark)
    (g.met.R.Radix.are_digits c.args.self.now.radix)
    (g.met.T.Machine.lawful c.args.self.now.mark c.requires.sound) c.requires.filled
    c.requires.disjoint (Digits c.args.from) c.args.from c.pass_digits-number.result.0
    c.pass_mark.result.0 c.args.bytes.now c.pass_digits-number.result.1.now
    c.pass_mark.result.1.now refl c.pass_digits-number.ensures c.pass_mark.ensures
