use Rattle.machines.specs.Marks.{reads_no_mark, reads_some_mark}
use Rattle.machines.proofs.Bytes.{below}
use Rattle.machines.proofs.digits.Numeral.pass_mark.Goals as goal

pub returns-then-left-bytes : goal.returns-then-left-bytes
returns-then-left-bytes g c = reads_no_mark (g.R.Radix.digits c.args.self.now.radix)
    c.args.self.now.limit (g.T.Machine.grammar c.args.self.now.mark)
    (g.met.R.Radix.are_digits c.args.self.now.radix)
    (g.met.T.Machine.lawful c.args.self.now.mark c.requires.sound) c.requires.filled
    c.requires.disjoint c.args.number c.start.result c.pass-to.result.0 c.args.bytes.now
    c.pass-to.result.1.now c.start.ensures c.requires.none c.pass-to.ensures c.if-left-bytes.true

pub returns : goal.returns
returns g c = reads_some_mark (g.R.Radix.digits c.args.self.now.radix)
    c.args.self.now.limit (g.T.Machine.grammar c.args.self.now.mark)
    (g.met.R.Radix.are_digits c.args.self.now.radix)
    (g.met.T.Machine.lawful c.args.self.now.mark c.requires.sound) c.requires.filled
    c.requires.disjoint c.args.number c.start.result c.pass-to.result.0 c.args.bytes.now
    c.pass-to.result.1.now c.start.ensures (below c.args.bytes.now c.type_inv.bytes)
    c.pass-to.ensures c.if-left-bytes.false
