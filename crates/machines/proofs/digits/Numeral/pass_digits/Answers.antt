use Rattle.machines.specs.Marks.{more_digits}
use Rattle.machines.proofs.Bytes.{below}
use Rattle.machines.proofs.digits.Numeral.pass_digits.Goals as goal

pub digits-preserved : goal.digits-preserved
digits-preserved g c = let (front, splits, steps) = c.digits.invariant in more_digits
    (g.R.Radix.digits c.args.self.now.radix)
    c.args.self.now.limit (g.T.Machine.grammar c.args.self.now.mark)
    (g.met.R.Radix.are_digits c.args.self.now.radix)
    (g.met.T.Machine.lawful c.args.self.now.mark c.requires.sound) c.requires.filled
    c.requires.disjoint c.args.from c.digits.number c.in-Some-with_digit.more
    c.in-Some.byte.now c.args.bytes.now front c.digits.rest.now c.in-Some.others.now splits
    c.in-Some.ensures.cases.0 (below c.args.bytes.now c.type_inv.bytes) steps
    c.in-Some-with_digit.ensures
