use Rattle.machines.specs.Sets.{one_ends}
use Rattle.machines.proofs.sets.OneOfMachine.is_over.Goals as goal

pub returns : goal.returns
returns g c = one_ends (g.S.ByteSet.within c.args.self.now.0)
    (g.met.S.ByteSet.nonempty c.args.self.now.0) c.args.at
