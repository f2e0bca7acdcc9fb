use Rattle.machines.specs.Sets.{one_done}
use Rattle.machines.proofs.sets.OneOfMachine.is_done.Goals as goal

pub returns : goal.returns
returns g c = one_done (g.S.ByteSet.within c.args.self.now.0) c.args.at
