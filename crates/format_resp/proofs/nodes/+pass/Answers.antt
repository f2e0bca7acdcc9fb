use Rattle.std.specs.Prelude.{Err, None, Ok, Some, drop, length, set, suc, ◌-◌, ◌≡◌}
use Rattle.std.proofs.Common.{◌∙◌, ap, arith, inl, inr, length-append, refl, rules}
use Rattle.format_resp.proofs.AfterLines.{head_back}
use Rattle.format_resp.proofs.NodeRows.{row_more, row_none, writes_room}
use Rattle.format_resp.proofs.NodesWritten.{list_writes, single_writes}
use Rattle.format_resp.proofs.Passing.{all_none}
use Rattle.format_resp.proofs.Within.{after_more, after_none, leads_here, replies_passed}
use Rattle.format_resp.proofs.Within.{string_passed}
use Rattle.format_resp.specs.declared.heads.Head.TheVariants as heads
use Rattle.format_resp.proofs.nodes.+pass.Goals as goal

-- ---- replies

pub pass_replies-loop-init : goal.pass_replies-loop-init
pass_replies-loop-init t c = record {
  passed = after_none c.args.protocol c.args.level c.args.bytes.now;
  wrote = row_none c.args.protocol c.args.level c.args.size c.args.index.now;
}

pub pass_replies-pass_reply-requires : goal.pass_replies-pass_reply-requires
pass_replies-pass_reply-requires t c =
    (omega arith, writes_room c.args.size c.args.index.now c.requires c.loop.invariant.wrote)

pub pass_replies-loop-preserved : goal.pass_replies-loop-preserved
pass_replies-loop-preserved t c = record {
  passed = after_more c.args.protocol c.args.level c.loop.counter c.args.bytes.now c.loop.rest.now
      c.in-Ok-Some.left.now c.loop.invariant.passed
      (rw c.in-Ok-Some.field-0-is at c.in-Ok-Some.ensures.told);
  wrote = row_more c.args.protocol c.args.level c.args.size c.args.index.now c.requires
      c.loop.invariant.wrote (rw c.in-Ok-Some.field-0-is at c.in-Ok-Some.ensures.nodes);
}

-- ---- a reply

pub pass_reply-returns-in-Never-clause-told : goal.pass_reply-returns-in-Never-clause-told
pass_reply-returns-in-Never-clause-told t c =
    let rest = c.args.bytes.now in
    let none = c.in-Never.ensures.told (all_none (drop 1 c.args.bytes.now)) in (
      None,
      c.args.level,
      leads_here c.args.protocol c.args.level rest None c.args.level rest (refl, refl),
      inl none,
    )

pub pass_reply-returns-in-Open-clause-told : goal.pass_reply-returns-in-Open-clause-told
pass_reply-returns-in-Open-clause-told t c =
    let rest = c.args.bytes.now in
    let (enough, all, begun) = c.in-Open.ensures.told (all_none (drop 1 c.args.bytes.now)) in (
      None,
      c.args.level,
      rest,
      leads_here c.args.protocol c.args.level rest None c.args.level rest (refl, refl),
      begun,
    )

pub pass_reply-returns-in-Ends-clause-told : goal.pass_reply-returns-in-Ends-clause-told
pass_reply-returns-in-Ends-clause-told t c =
    head_back c.args.protocol c.args.level c.in-Whole.left.now tt heads.Ends c.args.bytes.now
    c.in-Whole.left.now
    (rw c.in-Ends.is at (c.in-Whole.ensures.told (all_none (drop 1 c.args.bytes.now)))) refl

pub pass_reply-returns-in-Ends-clause-nodes : goal.pass_reply-returns-in-Ends-clause-nodes
pass_reply-returns-in-Ends-clause-nodes t c =
    single_writes c.args.protocol c.args.level c.args.size c.args.index.now c.ended_node.result
    (c.ended_node.ensures c.args.protocol
    (rw c.in-Ends.is at (c.in-Whole.ensures.told (all_none (drop 1 c.args.bytes.now))))) refl
    c.put.ensures

pub pass_reply-returns-in-Data-clause-told : goal.pass_reply-returns-in-Data-clause-told
pass_reply-returns-in-Data-clause-told t c =
    string_passed c.args.protocol c.args.level c.in-Data.bulk c.args.bytes.now
    c.in-Whole.left.now c.pass_string.result
    (rw c.in-Data.is at (c.in-Whole.ensures.told (all_none (drop 1 c.args.bytes.now))))
    c.pass_string.ensures.told

pub pass_reply-returns-in-Data-clause-nodes : goal.pass_reply-returns-in-Data-clause-nodes
pass_reply-returns-in-Data-clause-nodes t c =
    c.pass_string.ensures.nodes c.args.protocol c.args.level
    (rw c.in-Data.is at (c.in-Whole.ensures.told (all_none (drop 1 c.args.bytes.now))))

pub pass_reply-pass_aggregate-requires : goal.pass_reply-pass_aggregate-requires
pass_reply-pass_aggregate-requires t c = (
  omega arith,
  (
    c.requires,
    (
      search rules,
      rw c.in-Replies.is at (c.in-Whole.ensures.told (all_none (drop 1 c.args.bytes.now))),
    ),
  ),
)

-- ---- an aggregate

pub pass_aggregate-returns-in_default-clause-told :
    goal.pass_aggregate-returns-in_default-clause-told
pass_aggregate-returns-in_default-clause-told t c =
    let rest = c.args.bytes.now in
    let flat : c.args.level ≡ 0 = omega (arith, c.in_default.ensures) in (
      None,
      c.args.level,
      leads_here c.args.protocol c.args.level rest None c.args.level rest (refl, refl),
      inr (refl, refl, flat, c.args.count, c.args.left.now, c.requires.head),
    )

pub pass_aggregate-returns-in-Err-clause-told : goal.pass_aggregate-returns-in-Err-clause-told
pass_aggregate-returns-in-Err-clause-told t c =
    let deeper : c.args.level ≡ suc c.in-Some.inner = omega (arith, c.in-Some.ensures) in
    replies_passed c.args.protocol c.args.level c.in-Some.inner c.args.count c.args.bytes.now
    c.args.left.now (Err c.in-Err.stop) deeper c.requires.head c.in-Err.ensures.told

pub pass_aggregate-returns-in-Ok-None-clause-told :
    goal.pass_aggregate-returns-in-Ok-None-clause-told
pass_aggregate-returns-in-Ok-None-clause-told t c =
    let deeper : c.args.level ≡ suc c.in-Some.inner = omega (arith, c.in-Some.ensures) in
    replies_passed c.args.protocol c.args.level c.in-Some.inner c.args.count c.args.bytes.now
    c.args.left.now (Ok None) deeper c.requires.head
    (rw c.in-Ok-None.field-0-is at c.in-Ok-None.ensures.told)

pub pass_aggregate-returns-in-Ok-Some-clause-told :
    goal.pass_aggregate-returns-in-Ok-Some-clause-told
pass_aggregate-returns-in-Ok-Some-clause-told t c =
    let deeper : c.args.level ≡ suc c.in-Some.inner = omega (arith, c.in-Some.ensures) in
    replies_passed c.args.protocol c.args.level c.in-Some.inner c.args.count c.args.bytes.now
    c.args.left.now (Ok (Some c.in-Ok-Some.rest)) deeper c.requires.head
    (rw c.in-Ok-Some.field-0-is at c.in-Ok-Some.ensures.told)

pub pass_aggregate-returns-in-Ok-Some-clause-nodes :
    goal.pass_aggregate-returns-in-Ok-Some-clause-nodes
pass_aggregate-returns-in-Ok-Some-clause-nodes t c =
    let deeper : c.args.level ≡ suc c.in-Some.inner = omega (arith, c.in-Some.ensures) in
    let row = rw c.in-Ok-Some.field-0-is at c.in-Ok-Some.ensures.nodes in
    let size = c.args.size in
    let index = c.args.index.now in
    let start = size - length c.args.left.now in
    let end = size - length c.in-Ok-Some.rest.now in
    let next = c.pass_replies.new.index in
    list_writes c.args.protocol c.in-Some.inner size index c.args.count c.args.level
    c.kind_at.result start end next c.args.bytes.now deeper c.requires.room
    (omega (arith, c.requires.room, c.requires.less))
    (omega (
      arith,
      c.requires.room,
      c.requires.less,
      ap (λ l. length l) row.splits,
      length-append row.text c.in-Ok-Some.rest.now,
    )) c.kind_at.ensures c.requires.head row
    (c.put.ensures ∙ ap (λ n. set c.pass_replies.new.nodes index n) c.of_bytes.ensures)
