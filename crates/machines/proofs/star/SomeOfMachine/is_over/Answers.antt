use Rattle.machines.specs.Stars.{some_over}
use Rattle.machines.proofs.star.SomeOfMachine.is_over.Goals as goal

pub returns : goal.returns
returns g c = some_over (g.A.Machine.grammar c.args.self.now.0)
    (g.met.A.Machine.lawful c.args.self.now.0 c.requires.0) c.requires.1 c.requires.2
    c.args._at
