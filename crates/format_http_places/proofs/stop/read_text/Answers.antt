use Rattle.std.proofs.Common.{arith}
use Rattle.format_http_places.proofs.Counts.{differs_at}
use Rattle.format_http_places.proofs.Passed.{passed}
use Rattle.format_http_places.proofs.stop.read_text.Goals as goal

pub returns-in_err-rest : goal.returns-in_err-rest
returns-in_err-rest c = passed _ _ _ c.in_err-rest.field-0.0 c.from_residual.ensures.1
    (differs_at c.args.text.now c.args.bytes.now c.loop-byte.rest.now c.loop-byte.byte-index _
    (omega arith) c.loop-byte.invariant c.in_err-rest.ensures.0 c.in_err-rest.ensures.1)
