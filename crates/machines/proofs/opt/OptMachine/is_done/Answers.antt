use Rattle.machines.specs.Opts.{opt_done, opt_inner}
use Rattle.machines.proofs.opt.OptMachine.is_done.Goals as goal

pub returns-in-None : goal.returns-in-None
returns-in-None g c = opt_done (g.A.Machine.grammar c.args.self.now.0) c.args.at c.in-None.is

pub returns-in-Some : goal.returns-in-Some
returns-in-Some g c = opt_inner (g.A.Machine.grammar c.args.self.now.0) c.args.at c.in-Some.inner
    c.in-Some.is c.is_done.result c.is_done.ensures
