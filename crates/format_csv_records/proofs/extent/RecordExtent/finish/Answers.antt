use Rattle.format_csv_records.proofs.Extents.{open_after, within}
use Rattle.format_csv_records.proofs.extent.RecordExtent.finish.Goals as goal

pub returns-in-None-clause-told : goal.returns-in-None-clause-told
returns-in-None-clause-told c here =
    let (room, text, fields) = within _ _ _ here in
    let (it, all, not) = open_after _ c.args.dialect.apart _ _ _ here
    (rw c.in-None.is at (c.in_ok-size.ensures.fresh room (text, fields))) in
    c.end.ensures c.args.dialect not it all
