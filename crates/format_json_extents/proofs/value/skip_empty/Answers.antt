use Rattle.format_json_extents.proofs.Scanning.{this_scans}
use Rattle.format_json_extents.proofs.Values.{empty_scans}
use Rattle.format_json_extents.proofs.value.skip_empty.Goals as goal

pub returns : goal.returns
returns c =
    empty_scans c.args.keyed c.skip_closing.result c.skip_whitespace.ensures
    (this_scans _ _ c.skip_closing.result c.skip_closing.ensures)
