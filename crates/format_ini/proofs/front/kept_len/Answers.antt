use Rattle.std.proofs.Common.{arith}
use Rattle.format_ini.proofs.Runs.{kept_more}
use Rattle.format_ini.proofs.front.kept_len.Goals as goal

pub loop-place-preserved : goal.loop-place-preserved
loop-place-preserved c =
    let it = kept_more c.args.marks c.args.line.now c.loop-place.place c.loop-place.may_open
    c.is_ascii_whitespace-may_open.result (omega arith) c.loop-place.invariant.none
    c.loop-place.invariant.opened c.loop-place.invariant.closed c.if-begins_comment.ensures
    c.is_ascii_whitespace-may_open.ensures.value in
    record { none = it.0; opened = it.1; closed = it.2 }
