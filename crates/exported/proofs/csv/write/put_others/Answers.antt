use Rattle.std.proofs.Common.{arith}
use Rattle.exported.proofs.CsvWrite.{others_all, others_more, others_none}
use Rattle.exported.proofs.csv.write.put_others.Goals as goal

pub loop-number-init : goal.loop-number-init
loop-number-init c = others_none c.args.dialect c.args.fields.now _

pub loop-number-preserved : goal.loop-number-preserved
loop-number-preserved c =
    let i = c.loop-number.invariant in
    let h = c.put_field-behind.ensures in
    others_more c.args.dialect c.args.fields.now c.loop-number.number _ c.loop-number-test.true
    i.0 i.1 i.2 h.0 h.1 h.2 c.put_byte-end.ensures

pub returns : goal.returns
returns c =
    let i = c.loop-number.invariant in
    others_all c.args.dialect c.args.fields.now c.loop-number.number
    (omega (arith, c.loop-number-test.false)) i.0 i.1 i.2
