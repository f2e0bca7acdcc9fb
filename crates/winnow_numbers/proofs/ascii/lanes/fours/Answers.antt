use Rattle.winnow_numbers.proofs.LaneLemmas.{fours_are}
use Rattle.winnow_numbers.proofs.ascii.lanes.fours.Goals as goal

pub returns : goal.returns
returns c = fours_are c.args.pairs c.fits-pairs.0 c.requires
