use Rattle.machines.specs.Stars.{some_passes}
use Rattle.machines.proofs.star.SomeOfMachine.pass.Goals as goal

pub returns : goal.returns
returns g c = some_passes (g.A.Machine.grammar c.args.self.now.0)
    (g.met.A.Machine.lawful c.args.self.now.0 c.requires.0) c.requires.1 c.requires.2
    c.args.at c.pass_all.result.0 c.args.bytes.now c.pass_all.result.1.now c.pass_all.ensures
