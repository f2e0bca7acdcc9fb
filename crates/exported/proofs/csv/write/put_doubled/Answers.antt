use Rattle.exported.proofs.CsvWrite.{put_once, put_twice}
use Rattle.exported.proofs.csv.write.put_doubled.Goals as goal

pub returns-then-byte-quote : goal.returns-then-byte-quote
returns-then-byte-quote c = put_twice c.args.quote c.args.byte c.if-byte-quote.true
    c.put_byte-end.ensures c.put_byte.ensures

pub returns : goal.returns
returns c = put_once c.args.quote c.args.byte c.if-byte-quote.false c.put_byte-2.ensures
