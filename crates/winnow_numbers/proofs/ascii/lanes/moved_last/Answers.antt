use Rattle.winnow_numbers.proofs.LaneLemmas.{moved_are}
use Rattle.winnow_numbers.proofs.ascii.lanes.moved_last.Goals as goal

pub returns : goal.returns
returns c = moved_are c.args.lanes c.args.count c.fits-lanes.0 c.requires
