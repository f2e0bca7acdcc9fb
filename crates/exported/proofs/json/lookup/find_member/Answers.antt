use Rattle.std.proofs.Common.{arith}
use Rattle.format_json_extents.proofs.Scanning.{if_none_of_true}
use Rattle.exported.proofs.JsonNodes.{breaks_end, breaks_name, breaks_order, finds_member}
use Rattle.exported.proofs.JsonNodes.{members_begin, others_more}
use Rattle.exported.proofs.json.lookup.find_member.Goals as goal

pub members-init : goal.members-init
members-init c = members_begin c.in_ok-after.ensures

pub returns-then-node-at-clause-none : goal.returns-then-node-at-clause-none
returns-then-node-at-clause-none c =
    breaks_order c.members.invariant (omega (arith, c.if-at-after.false))
    (omega (arith, c.if-node-at.true))

pub returns-in_err-is_name-clause-none : goal.returns-in_err-is_name-clause-none
returns-in_err-is_name-clause-none c =
    if_none_of_true _ _ (breaks_name c.members.invariant (omega (arith, c.if-at-after.false))
    c.in_err-is_name.ensures.none)

pub returns-then-node-after-clause-some : goal.returns-then-node-after-clause-some
returns-then-node-after-clause-some c =
    finds_member c.members.invariant (omega (arith, c.if-at-after.false)) c.if-branch.true
    c.in_ok-is_name.ensures.some (omega (arith, c.if-node-after.true))

pub returns-else-node-after-clause-none : goal.returns-else-node-after-clause-none
returns-else-node-after-clause-none c =
    breaks_end c.members.invariant (omega (arith, c.if-at-after.false)) c.if-branch.true
    c.in_ok-is_name.ensures.some (omega (arith, c.if-node-after.false))

pub members-preserved : goal.members-preserved
members-preserved c =
    others_more c.members.invariant (omega (arith, c.if-at-after.false)) c.if-branch.false
    c.in_ok-is_name.ensures.some (omega (arith, c.if-node-at.false))
