use Rattle.exported.proofs.CsvWrite.{line_put}
use Rattle.exported.proofs.csv.write.put_record.Goals as goal

pub returns : goal.returns
returns c =
    let h = c.put_others-end.ensures in
    let k = c.put_last-end.ensures in
    line_put c.args.dialect c.args.fields.now _ c.requires _ c.end_of.ensures h.0 h.1 h.2
    k.0 k.1 k.2 c.put_bytes.ensures
