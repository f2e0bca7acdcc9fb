use Rattle.machines.specs.Ranges.{times_done, times_open}
use Rattle.machines.proofs.times.TimesMachine.is_done.Goals as goal

pub returns-then-at-eq0 : goal.returns-then-at-eq0
returns-then-at-eq0 g c = times_done (g.A.Machine.grammar c.args.self.now.word)
    (g.met.A.Machine.lawful c.args.self.now.word c.requires.0) c.requires.1
    c.requires.2 c.args.self.now.least c.args.self.now.extra c.args.at
    c.if-at-eq0.true c.is_inner_done.result c.is_inner_done.ensures

pub returns : goal.returns
returns g c = times_open (g.A.Machine.grammar c.args.self.now.word)
    (g.met.A.Machine.lawful c.args.self.now.word c.requires.0) c.requires.1
    c.requires.2 c.args.self.now.least c.args.self.now.extra c.args.at c.if-at-eq0.false
