use Rattle.machines.specs.Sets.{run_more}
use Rattle.machines.proofs.sets.RunMachine.is_over.Goals as goal

pub returns : goal.returns
returns g c = run_more (g.S.ByteSet.within c.args.self.now.0)
    (g.met.S.ByteSet.nonempty c.args.self.now.0)
