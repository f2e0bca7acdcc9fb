use Rattle.machines.specs.Nests.{brackets_of}
use Rattle.machines.specs.Turns.{nest_over}
use Rattle.machines.proofs.nested.NestedMachine.is_over.Goals as goal

pub returns : goal.returns
returns g c = nest_over (brackets_of c.args.self.now.first c.args.self.now.second)
    (g.A.Machine.grammar c.args.self.now.word)
    (g.met.A.Machine.lawful c.args.self.now.word c.requires.0)
    c.requires.1 c.args.self.now.limit c.args._at
