use Rattle.std.proofs.Common.{arith}
use Rattle.exported.proofs.RespCommand.{command_begun, command_more, command_put}
use Rattle.exported.proofs.resp.command.put_command.Goals as goal

pub loop-number-init : goal.loop-number-init
loop-number-init c = command_begun c.args.parts.now c.put_size-end.ensures

pub loop-number-preserved : goal.loop-number-preserved
loop-number-preserved c = command_more c.args.parts.now c.loop-number.number _
    c.loop-number-test.true c.loop-number.invariant c.put_bulk-end.ensures

pub returns : goal.returns
returns c = command_put c.args.parts.now c.loop-number.number
    (omega (arith, c.loop-number-test.false)) c.loop-number.invariant
