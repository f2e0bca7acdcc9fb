use Rattle.std.proofs.Common.{arith}
use Rattle.exported.proofs.RespCommand.{digit_put, digits_put}
use Rattle.exported.proofs.resp.command.+put_digits.Goals as goal

pub returns-then-number-lt10 : goal.returns-then-number-lt10
returns-then-number-lt10 t c = digit_put c.args.number (omega arith) c.put_byte.ensures

pub returns : goal.returns
returns t c = digits_put c.args.number (omega arith) c.ranges.number.fits c.put_digits-end.ensures
    c.put_byte-2.ensures
