use Rattle.std.proofs.Common.{arith}
use Rattle.exported.proofs.CsvWrite.{line_shown}
use Rattle.exported.proofs.csv.write.write_record.Goals as goal

pub returns-clause-line : goal.returns-clause-line
returns-clause-line c _ =
    let h = c.put_record-size.ensures in
    let k = c.put_record.ensures in
    line_shown c.args.dialect _ h.0 h.1 h.2 k.0 k.1 k.2 (omega (arith, c.if-size-buffer.false))
    (omega arith)
