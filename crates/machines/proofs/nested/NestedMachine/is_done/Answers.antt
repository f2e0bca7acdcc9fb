use Rattle.machines.specs.Nests.{brackets_of}
use Rattle.machines.specs.Turns.{nest_done, nest_open}
use Rattle.machines.proofs.nested.NestedMachine.is_done.Goals as goal

pub returns-then-at-eq0 : goal.returns-then-at-eq0
returns-then-at-eq0 g c = nest_done (brackets_of c.args.self.now.first c.args.self.now.second)
    (g.A.Machine.grammar c.args.self.now.word)
    (g.met.A.Machine.lawful c.args.self.now.word c.requires.0)
    c.requires.1 c.args.self.now.limit c.args.at c.if-at-eq0.true
    c.is_inner_done.result c.is_inner_done.ensures

pub returns : goal.returns
returns g c = nest_open (brackets_of c.args.self.now.first c.args.self.now.second)
    (g.A.Machine.grammar c.args.self.now.word)
    (g.met.A.Machine.lawful c.args.self.now.word c.requires.0)
    c.requires.1 c.args.self.now.limit c.args.at c.if-at-eq0.false
