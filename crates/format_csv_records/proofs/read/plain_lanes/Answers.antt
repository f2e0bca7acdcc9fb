use Rattle.format_csv_records.proofs.Lanes.{all_plain, first_other, others_are}
use Rattle.format_csv_records.proofs.read.plain_lanes.Goals as goal

pub returns-then-others-eq0 : goal.returns-then-others-eq0
returns-then-others-eq0 c =
    all_plain c.args.dialect c.args.bytes.now _ c.requires
    (others_are c.args.dialect c.args.bytes.now c.requires) c.if-others-eq0.true

pub returns : goal.returns
returns c =
    first_other c.args.dialect c.args.bytes.now _ c.requires
    (others_are c.args.dialect c.args.bytes.now c.requires) c.if-others-eq0.false
