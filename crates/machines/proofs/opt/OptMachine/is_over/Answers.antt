use Rattle.machines.specs.Opts.{inner_over, opt_over}
use Rattle.machines.proofs.opt.OptMachine.is_over.Goals as goal

pub returns-in-None : goal.returns-in-None
returns-in-None g c = opt_over (g.A.Machine.grammar c.args.self.now.0) c.args.at c.start.result
    c.in-None.is c.start.ensures c.is_over.result c.is_over.ensures

pub returns-in-Some : goal.returns-in-Some
returns-in-Some g c = inner_over (g.A.Machine.grammar c.args.self.now.0) c.args.at
    c.in-Some.inner c.in-Some.is c.is_over-in-Some.result c.is_over-in-Some.ensures
