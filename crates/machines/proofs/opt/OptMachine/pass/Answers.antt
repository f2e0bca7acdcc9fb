use Rattle.machines.specs.Opts.{opt_in, opt_none, opt_some}
use Rattle.machines.proofs.opt.OptMachine.pass.Goals as goal

pub returns-in-Some : goal.returns-in-Some
returns-in-Some g c = opt_in (g.A.Machine.grammar c.args.self.now.0) c.args.at c.in-Some.from
    c.pass-to.result.0 c.args.bytes.now c.pass-to.result.1.now c.in-Some.is c.pass-to.ensures

pub returns-then-left-bytes : goal.returns-then-left-bytes
returns-then-left-bytes g c = opt_none (g.A.Machine.grammar c.args.self.now.0) c.args.at
    c.start.result c.pass-to-in-None.result.0 c.args.bytes.now c.pass-to-in-None.result.1.now
    c.in-None.is c.start.ensures c.pass-to-in-None.ensures c.if-left-bytes.true

pub returns-else-left-bytes : goal.returns-else-left-bytes
returns-else-left-bytes g c = opt_some (g.A.Machine.grammar c.args.self.now.0) c.args.at
    c.start.result c.pass-to-in-None.result.0 c.args.bytes.now c.pass-to-in-None.result.1.now
    c.in-None.is c.start.ensures c.pass-to-in-None.ensures c.if-left-bytes.false
