-- Loop invariant: so many replies are passed, and their nodes are written.
use Rattle.std.proofs.Common.{◌*◌, ◌+◌}
use Rattle.format_resp.specs.Bounded.{AreAfter}
use Rattle.format_resp.specs.Writing.{RowNodes, WritesNodes}
use Rattle.format_resp.proofs.nodes.+pass.Given as goal

-- a reply calls its elements at a smaller depth, and these call replies at their depth
abbrev pub decreases-pass_replies : goal.decreases-pass_replies
decreases-pass_replies l = 3 * l.level + 2

abbrev pub decreases-pass_reply : goal.decreases-pass_reply
decreases-pass_reply l = 3 * l.level + 1

abbrev pub decreases-pass_aggregate : goal.decreases-pass_aggregate
decreases-pass_aggregate l = 3 * l.level

abbrev pub invariant-pass_replies-loop : goal.invariant-pass_replies-loop
invariant-pass_replies-loop l = record {
  passed : AreAfter l.protocol l.level l.counter l.bytes l.rest;
  wrote : WritesNodes (RowNodes l.protocol l.level l.counter) l.size l.initial.index l.bytes l.rest
      l.index l.initial.nodes l.nodes;
}
