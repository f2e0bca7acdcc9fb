use Rattle.std.proofs.Common.{subst}
use Rattle.format_resp.specs.declared.extent.Reason.TheVariants.{Malformed, TooDeep, TooLarge}
use Rattle.format_resp.specs.declared.reply.Protocol.{Protocol}
use Rattle.exported.proofs.Replies.{rejects_by, waits}
use Rattle.exported.specs.Resp.{IsIncomplete, Rejects}
use Rattle.exported.proofs.resp.nodes.exported_resp_nodes.Goals as goal

pub returns-in-Ok-None-clause-incomplete : goal.returns-in-Ok-None-clause-incomplete
returns-in-Ok-None-clause-incomplete c e =
    let P : Protocol → Type 0 = λ p. IsIncomplete p c.args.max_depth c.args.bytes.now in
    subst P c.version.ensures (waits c.version.result c.args.max_depth c.args.bytes.now
    (rw c.in-Ok-None.field-0-is at c.in-Ok-None.ensures.told))

pub returns-in-Err-clause-refused : goal.returns-in-Err-clause-refused
returns-in-Err-clause-refused c e =
    let P : Protocol → Type 0 =
    λ p. Rejects p c.args.max_depth c.args.bytes.now Malformed c.in-Err.refused.offset in
    rw c.none_at-in-Err.ensures (subst P c.version.ensures (rejects_by c.version.result
    c.args.max_depth c.args.bytes.now Malformed c.code_of.result c.in-Err.refused
    c.code_of.ensures e
    c.in-Err.ensures.told))

pub returns-in-Err-clause-large : goal.returns-in-Err-clause-large
returns-in-Err-clause-large c e =
    let P : Protocol → Type 0 =
    λ p. Rejects p c.args.max_depth c.args.bytes.now TooLarge c.in-Err.refused.offset in
    rw c.none_at-in-Err.ensures (subst P c.version.ensures (rejects_by c.version.result
    c.args.max_depth c.args.bytes.now TooLarge c.code_of.result c.in-Err.refused c.code_of.ensures e
    c.in-Err.ensures.told))

pub returns-in-Err-clause-nested : goal.returns-in-Err-clause-nested
returns-in-Err-clause-nested c e =
    let P : Protocol → Type 0 =
    λ p. Rejects p c.args.max_depth c.args.bytes.now TooDeep c.in-Err.refused.offset in
    rw c.none_at-in-Err.ensures (subst P c.version.ensures (rejects_by c.version.result
    c.args.max_depth c.args.bytes.now TooDeep c.code_of.result c.in-Err.refused c.code_of.ensures e
    c.in-Err.ensures.told))
