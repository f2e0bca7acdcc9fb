use Rattle.machines.specs.Ranges.{times_last, times_more, times_none}
use Rattle.machines.proofs.times.TimesMachine.is_over.Goals as goal

pub returns-in-Some : goal.returns-in-Some
returns-in-Some g c = times_more (g.A.Machine.grammar c.args.self.now.word)
    (g.met.A.Machine.lawful c.args.self.now.word c.requires.0) c.requires.1
    c.requires.2 c.args.self.now.least c.args.self.now.extra c.args.at
    c.in-Some.field-0.0 c.in-Some.field-0.1 c.in-Some.ensures

pub returns-in-None-inner : goal.returns-in-None-inner
returns-in-None-inner g c = times_none (g.A.Machine.grammar c.args.self.now.word)
    (g.met.A.Machine.lawful c.args.self.now.word c.requires.0) c.requires.1
    c.requires.2 c.args.self.now.least c.args.self.now.extra c.args.at
    c.in-None.ensures c.in-None-inner.is

pub returns-in-Some-inner : goal.returns-in-Some-inner
returns-in-Some-inner g c = times_last (g.A.Machine.grammar c.args.self.now.word)
    (g.met.A.Machine.lawful c.args.self.now.word c.requires.0) c.requires.1
    c.requires.2 c.args.self.now.least c.args.self.now.extra c.args.at
    c.in-Some-inner.inner c.in-None.ensures c.in-Some-inner.is c.is_over.result c.is_over.ensures
