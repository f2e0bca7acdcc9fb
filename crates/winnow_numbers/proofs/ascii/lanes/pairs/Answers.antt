use Rattle.winnow_numbers.proofs.LaneLemmas.{pairs_are}
use Rattle.winnow_numbers.proofs.ascii.lanes.pairs.Goals as goal

pub returns : goal.returns
returns c = pairs_are c.args.digits c.fits-digits.0 c.requires
