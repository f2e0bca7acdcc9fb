use Rattle.machines.specs.Stars.{star_over}
use Rattle.machines.proofs.star.StarMachine.is_over.Goals as goal

pub returns : goal.returns
returns g c = star_over (g.A.Machine.grammar c.args.self.now.0)
    (g.met.A.Machine.lawful c.args.self.now.0 c.requires.0) c.requires.1 c.requires.2
    c.args._at
