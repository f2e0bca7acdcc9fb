use Rattle.std.proofs.Common.{arith}
use Rattle.std.proofs.lemmas.Option.{slice_get-get_or}
use Rattle.format_toml_nodes.proofs.Finding.{both_ways, is_no_element, no_entry, so_first}
use Rattle.format_toml_nodes.proofs.Finding.{so_found, so_next, so_none}
use Rattle.format_toml_nodes.proofs.find.find_entry.Goals as goal
use Rattle.format_toml_nodes.proofs.find.find_entry.Goals.{
  else-not-node-via-then-not-node+else-is_at,
}
use Rattle.format_toml_nodes.proofs.find.find_entry.Goals.{else-not-node-via-else-not-node}

pub loop-last-init : goal.loop-last-init
loop-last-init c path are within =
    so_first are c.args.table within c.args.name.now _
    (slice_get-get_or c.args.nodes.now c.args.table _ within)

pub returns-then-is_at-clause-found : goal.returns-then-is_at-clause-found
returns-then-is_at-clause-found c path are within =
    so_found are c.args.table within c.args.name.now c.loop-last.last c.loop-last.at _
    c.loop-last-test.true (slice_get-get_or c.args.nodes.now c.loop-last.at _ c.if-at-nodes.true)
    (is_no_element _ c.if-not-node.true) (c.is_at.ensures.0 c.if-is_at.true)
    (c.loop-last.invariant path are within)

pub loop-last-preserved : goal.loop-last-preserved
loop-last-preserved c path are within =
    so_next are c.args.table within c.args.name.now c.loop-last.last c.loop-last.at _
    c.loop-last-test.true (slice_get-get_or c.args.nodes.now c.loop-last.at _ c.if-at-nodes.true)
    (λ element has. elim c.else-not-node.branch [
      | else-not-node-via-then-not-node+else-is_at w ↦
          both_ways _ (w.is_at.ensures.1 has) w.if-is_at.false
      | else-not-node-via-else-not-node w ↦ no_entry _ w.if-not-node.false element
    ]) (c.loop-last.invariant path are within)

pub returns-else-at-nodes-clause-found : goal.returns-else-at-nodes-clause-found
returns-else-at-nodes-clause-found c path are within =
    so_none are c.args.table within c.args.name.now c.loop-last.last c.loop-last.at
    (λ up w. omega (arith, w, c.if-at-nodes.false)) (c.loop-last.invariant path are within)

pub returns-after-loop-last-clause-found : goal.returns-after-loop-last-clause-found
returns-after-loop-last-clause-found c path are within =
    so_none are c.args.table within c.args.name.now c.loop-last.last c.loop-last.at
    (λ up w. omega (arith, up, c.loop-last-test.false)) (c.loop-last.invariant path are within)
