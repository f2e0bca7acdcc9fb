use Rattle.std.proofs.Common.{arith}
use Rattle.exported.proofs.Putting.{put_there}
use Rattle.exported.proofs.output.put_bytes.Goals as goal

pub returns-then-end-buffer : goal.returns-then-end-buffer
returns-then-end-buffer c = put_there c.args.bytes.now c.copy_from_slice.new.self c.args.buffer.now
    c.args.at c.saturating_add-end.result c.copy_from_slice.ensures.after
    c.saturating_add-end.ensures c.if-end-buffer.true (omega arith)
