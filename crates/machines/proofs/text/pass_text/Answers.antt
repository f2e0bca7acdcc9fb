use Rattle.std.proofs.Common.{add-one}
use Rattle.machines.specs.Texts.{text_turn}
use Rattle.machines.proofs.text.pass_text.Goals as goal

pub bytes-preserved : goal.bytes-preserved
bytes-preserved c = text_turn c.args.text.now c.args.at c.bytes.passed _ c.args.bytes.now
    c.bytes.rest.now c.in-Some.others.now c.in-Some.byte.now c.bytes.invariant
    c.in-Some.ensures.cases.0 c.bytes-test.true c.if-byte-text.false
    (add-one c.bytes.passed)
