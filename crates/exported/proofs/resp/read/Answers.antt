use Rattle.std.proofs.Common.{◌∙◌, ap, arith, false, inl, inr, length, subst, sym, ℕ}
use Rattle.std.proofs.lemmas.Bool.{true≢false}
use Rattle.winnow.specs.Input.{Input}
use Rattle.winnow.specs.Partial.{with_flag}
use Rattle.format_resp.specs.declared.reply.Protocol.{Protocol}
use Rattle.exported.proofs.Replies.{rejects, reply_there, reply_told, tells_deep, tells_done}
use Rattle.exported.proofs.Replies.{tells_memory, tells_rejected, tells_waits, waits}
use Rattle.exported.specs.Resp.{TellsReply, no_reply}
use Rattle.exported.proofs.resp.read.Goals as goal

pub returns-then-max_depth-gt-MAX_DEPTH : goal.returns-then-max_depth-gt-MAX_DEPTH
returns-then-max_depth-gt-MAX_DEPTH c =
    tells_deep _ c.args.max_depth c.args.bytes.now (omega (arith, c.if-max_depth-gt-MAX_DEPTH.true))

pub returns-in-Ok : goal.returns-in-Ok
returns-in-Ok c =
    let protocol = c.version-protocol.result in
    let level = c.args.max_depth in
    let bytes = c.args.bytes.now in
    let start = ap (λ (i : Input ℕ). i.left.tokens)
    (c.complete.ensures.complete ∙ ap (λ (i : Input ℕ). with_flag i false) c.new-whole.ensures) in
    let is = rw start at c.in-Ok.ensures.first in
    let left = sym (ap (λ (i : Input ℕ). length i.left.tokens) c.into_inner.ensures) in
    let P : Protocol → Type 0 = λ p. TellsReply p level bytes 0 c.reply_at.result in
    subst P c.version-protocol.ensures
    (tells_done protocol level bytes _ (omega (arith, c.if-max_depth-gt-MAX_DEPTH.false))
    (reply_told protocol level bytes _ c.in-Ok.found _ _ is left
    (c.reply_at.ensures.shown protocol level _ is left) c.reply_at.ensures.length))

pub returns-then-is_memory : goal.returns-then-is_memory
returns-then-is_memory c =
    tells_memory _ c.args.max_depth c.args.bytes.now
    (omega (arith, c.if-max_depth-gt-MAX_DEPTH.false))

pub returns-in-Err-bounded_length : goal.returns-in-Err-bounded_length
returns-in-Err-bounded_length c =
    let protocol = c.version-protocol.result in
    let level = c.args.max_depth in
    let bytes = c.args.bytes.now in
    let P : Protocol → Type 0 = λ p.
    TellsReply p level bytes c.code_of.result
    (no_reply c.in-Err-bounded_length.invalid.offset) in
    subst P c.version-protocol.ensures (tells_rejected protocol level bytes _ _ _
    (omega (arith, c.if-max_depth-gt-MAX_DEPTH.false)) c.code_of.ensures
    (rejects protocol level bytes c.in-Err-bounded_length.invalid
    c.in-Err-bounded_length.ensures))

pub returns-in-Ok-None : goal.returns-in-Ok-None
returns-in-Ok-None c =
    let protocol = c.version-protocol.result in
    let level = c.args.max_depth in
    let bytes = c.args.bytes.now in
    let P : Protocol → Type 0 = λ p. TellsReply p level bytes 2 (no_reply 0) in
    subst P c.version-protocol.ensures (tells_waits protocol level bytes
    (omega (arith, c.if-max_depth-gt-MAX_DEPTH.false)) (waits protocol level bytes
    (rw c.in-Ok-None.field-0-is at c.in-Ok-None.ensures)))

pub unreachable-requires : goal.unreachable-requires
unreachable-requires c =
    let start = ap (λ (i : Input ℕ). i.left.tokens)
    (c.complete.ensures.complete ∙ ap (λ (i : Input ℕ). with_flag i false) c.new-whole.ensures) in
    elim c.in-Err.ensures.first [
      | inl m ↦ true≢false (sym (c.is_memory.ensures.1 m) ∙ c.if-is_memory.false)
      | inr none ↦ reply_there c.version-protocol.result c.args.max_depth c.args.bytes.now
          c.args.alloc c.in-Ok-Some._length
          (rw c.in-Ok-Some.field-0-is at c.in-Ok-Some.ensures) (rw start at none)
    ]
