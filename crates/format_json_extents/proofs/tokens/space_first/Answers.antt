use Rattle.std.proofs.Common.{◌∙◌, sym}
use Rattle.format_json_extents.proofs.Runs.{ends_are, lanes_end, none_set, tells_ends}
use Rattle.format_json_extents.proofs.tokens.space_first.Goals as goal

pub returns-then-ends-eq0 : goal.returns-then-ends-eq0
returns-then-ends-eq0 c =
    none_set tells_ends c.args.lanes
    (sym (ends_are c.args.lanes c.fits-lanes.0) ∙ c.if-ends-eq0.true)

pub returns : goal.returns
returns c =
    lanes_end tells_ends c.args.lanes c.fits-lanes.0 (ends_are c.args.lanes c.fits-lanes.0)
    c.if-ends-eq0.false
