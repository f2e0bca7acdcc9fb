use Rattle.winnow_numbers.proofs.LaneLemmas.{two_are}
use Rattle.winnow_numbers.proofs.ascii.lanes.two_words.Goals as goal

pub returns : goal.returns
returns c = two_are c.args.fours c.fits-fours.0 c.requires
