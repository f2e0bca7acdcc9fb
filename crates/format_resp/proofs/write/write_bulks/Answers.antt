use Rattle.std.proofs.Common.{arith, drop, rules}
use Rattle.format_resp.proofs.Rooms.{lacks_bulk, lacks_ending, on_err}
use Rattle.format_resp.specs.Written.{bulks_of}
use Rattle.format_resp.proofs.write.write_bulks.Goals as goal

pub returns-in_err-write_data-clause-full : goal.returns-in_err-write_data-clause-full
returns-in_err-write_data-clause-full g c =
    let held = c.loop-part.invariant in
    on_err _ (lacks_ending c.args.into.now c.loop-part.into
    (bulks_of (drop c.loop-part.part-index c.args.parts.now)) (bulks_of c.args.parts.now)
    held.told held.room
    (lacks_bulk c.loop-part.into c.args.parts.now c.loop-part.part-index _ (omega arith)
    (search rules) c.in_err-write_data.ensures.full))
