use Rattle.std.proofs.Common.{◌∙◌, sym}
use Rattle.format_json_extents.proofs.Runs.{lanes_end, none_set, others_are, tells_others}
use Rattle.format_json_extents.proofs.tokens.unescaped_first.Goals as goal

pub returns-then-others-eq0 : goal.returns-then-others-eq0
returns-then-others-eq0 c =
    none_set tells_others c.args.lanes
    (sym (others_are c.args.lanes c.fits-lanes.0) ∙ c.if-others-eq0.true)

pub returns : goal.returns
returns c =
    lanes_end tells_others c.args.lanes c.fits-lanes.0 (others_are c.args.lanes c.fits-lanes.0)
    c.if-others-eq0.false
