use Rattle.machines.specs.Sets.{run_passes}
use Rattle.machines.proofs.sets.RunMachine.pass.Goals as goal

pub returns : goal.returns
returns g c = run_passes (g.S.ByteSet.within c.args.self.now.0) c.args.at c.run-run.result
    c.args.bytes.now c.rest_after.result.now c.rest_after.ensures c.run-run.ensures.all
    c.run-run.ensures.ends
