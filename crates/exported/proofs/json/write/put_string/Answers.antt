use Rattle.std.proofs.Common.{arith}
use Rattle.exported.proofs.JsonWrite.{string_more, string_put}
use Rattle.exported.proofs.json.write.put_string.Goals as goal

pub loop-place-preserved : goal.loop-place-preserved
loop-place-preserved c = string_more c.args.bytes.now c.loop-place.place _
    c.loop-place-test.true c.loop-place.invariant c.put_escaped-end.ensures

pub returns : goal.returns
returns c = string_put c.args.bytes.now c.loop-place.place
    (omega (arith, c.loop-place-test.false)) c.loop-place.invariant c.put_byte.ensures
