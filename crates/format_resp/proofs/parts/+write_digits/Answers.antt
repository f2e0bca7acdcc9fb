use Rattle.std.proofs.Common.{arith}
use Rattle.format_resp.proofs.Rooms.{digit_lacks, digits_first, digits_last, on_err}
use Rattle.format_resp.proofs.Writing.{digit_alone, digits_more}
use Rattle.format_resp.proofs.parts.+write_digits.Goals as goal

pub returns-then-number-lt10-clause-written : goal.returns-then-number-lt10-clause-written
returns-then-number-lt10-clause-written g t c =
    digit_alone c.args.number c.args.into.now.items (omega arith) c.in_ok-put.ensures.written

pub returns-clause-written : goal.returns-clause-written
returns-clause-written g t c =
    digits_more c.args.number c.args.into.now.items (omega arith) c.ranges.number.fits
    c.in_ok-write_digits.ensures.written c.in_ok-put-2.ensures.written

pub returns-in_err-put-clause-full : goal.returns-in_err-put-clause-full
returns-in_err-put-clause-full g t c =
    on_err _ (digit_lacks c.args.into.now c.args.number (omega arith) c.in_err-put.ensures.full)

pub returns-in_err-write_digits-clause-full : goal.returns-in_err-write_digits-clause-full
returns-in_err-write_digits-clause-full g t c =
    on_err _ (digits_first c.args.into.now c.args.number (omega arith)
    c.ranges.number.fits c.in_err-write_digits.ensures.full)

pub returns-in_err-put-2-clause-full : goal.returns-in_err-put-2-clause-full
returns-in_err-put-2-clause-full g t c =
    on_err _ (digits_last c.args.into.now c.write_digits.new.into c.args.number
    (omega arith) c.ranges.number.fits c.in_ok-write_digits.ensures.written
    c.in_ok-write_digits.ensures.capacity c.in_err-put-2.ensures.full)
