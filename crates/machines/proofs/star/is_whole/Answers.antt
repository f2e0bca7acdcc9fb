use Rattle.machines.specs.Stars.{star_done, star_whole}
use Rattle.machines.proofs.star.is_whole.Goals as goal

pub returns-in-None : goal.returns-in-None
returns-in-None g c = star_whole (g.A.Machine.grammar c.args.machine.now)
    c.args.at c.in-None.is

pub returns-in-Some : goal.returns-in-Some
returns-in-Some g c = star_done (g.A.Machine.grammar c.args.machine.now)
    c.args.at c.in-Some.inner c.in-Some.is c.is_done.result c.is_done.ensures
