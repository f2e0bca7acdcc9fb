use Rattle.winnow_numbers.proofs.FirstLemmas.{ends_digits, others_are}
use Rattle.winnow_numbers.proofs.ascii.lanes.digits_first.Goals as goal

pub returns : goal.returns
returns c =
    ends_digits c.args.lanes _ c.fits-lanes.0 (others_are c.args.lanes c.fits-lanes.0)
    c.if-others-eq0.false
