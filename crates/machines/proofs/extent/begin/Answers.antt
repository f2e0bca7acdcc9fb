use Rattle.std.proofs.Common.{refl}
use Rattle.machines.proofs.Extents.{of_none}
use Rattle.machines.proofs.extent.begin.Goals as goal

pub returns : goal.returns
returns g c bytes = of_none (g.M.Machine.grammar c.args.machine.now) _ bytes refl c.start.ensures
