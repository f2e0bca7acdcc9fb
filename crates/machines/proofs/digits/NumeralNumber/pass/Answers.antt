use Rattle.std.proofs.Common.{subst, sym}
use Rattle.machines.specs.Digits.{HasNoDigit}
use Rattle.machines.specs.Marks.{reads_first, reads_mark, reads_nothing}
use Rattle.machines.proofs.Bytes.{first_below}
use Rattle.machines.proofs.digits.NumeralNumber.pass.Goals as goal

pub returns-in-Mark : goal.returns-in-Mark
returns-in-Mark g c = reads_mark (g.R.Radix.digits c.args.self.now.radix)
    c.args.self.now.limit (g.T.Machine.grammar c.args.self.now.mark)
    (g.met.R.Radix.are_digits c.args.self.now.radix)
    (g.met.T.Machine.lawful c.args.self.now.mark c.requires.0) c.requires.1 c.requires.2 c.args.at
    c.in-Mark.number c.in-Mark.from c.pass-to.result.0 c.args.bytes.now c.pass-to.result.1.now
    c.in-Mark.is c.pass-to.ensures

pub returns-in-None-with_digit : goal.returns-in-None-with_digit
returns-in-None-with_digit g c = reads_nothing (g.R.Radix.digits c.args.self.now.radix)
    c.args.self.now.limit (g.T.Machine.grammar c.args.self.now.mark)
    (g.met.R.Radix.are_digits c.args.self.now.radix)
    (g.met.T.Machine.lawful c.args.self.now.mark c.requires.0) c.requires.1 c.requires.2 c.args.at
    c.args.bytes.now c.in-Start.is (subst (HasNoDigit (g.R.Radix.digits c.args.self.now.radix)
    c.args.self.now.limit 0) (sym c.in-Some.ensures.cases.0) c.in-None-with_digit.ensures)

pub returns-in-Some-with_digit : goal.returns-in-Some-with_digit
returns-in-Some-with_digit g c = reads_first (g.R.Radix.digits c.args.self.now.radix)
    c.args.self.now.limit (g.T.Machine.grammar c.args.self.now.mark)
    (g.met.R.Radix.are_digits c.args.self.now.radix)
    (g.met.T.Machine.lawful c.args.self.now.mark c.requires.0) c.requires.1 c.requires.2 c.args.at
    c.in-Some.byte.now c.in-Some-with_digit.number c.pass_number-in-Some-with_digit.result.0
    c.args.bytes.now c.in-Some.rest.now c.pass_number-in-Some-with_digit.result.1.now c.in-Start.is
    c.in-Some.ensures.cases.0 (first_below c.args.bytes.now c.in-Some.rest.now c.in-Some.byte.now
    c.in-Some.ensures.cases.0 c.type_inv.bytes) c.in-Some-with_digit.ensures
    c.pass_number-in-Some-with_digit.ensures
