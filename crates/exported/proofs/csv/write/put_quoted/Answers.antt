use Rattle.std.proofs.Common.{arith}
use Rattle.exported.proofs.CsvWrite.{quoted_begun, quoted_closed, quoted_more}
use Rattle.exported.proofs.csv.write.put_quoted.Goals as goal

pub loop-place-init : goal.loop-place-init
loop-place-init c = quoted_begun c.args.quote c.args.field.now c.put_byte-end.ensures

pub loop-place-preserved : goal.loop-place-preserved
loop-place-preserved c = quoted_more c.args.quote c.args.field.now c.loop-place.place _
    c.loop-place-test.true c.loop-place.invariant c.put_doubled-end.ensures

pub returns : goal.returns
returns c = quoted_closed c.args.quote c.args.field.now c.loop-place.place
    (omega (arith, c.loop-place-test.false)) c.loop-place.invariant c.put_byte.ensures
