use Rattle.std.proofs.Common.{◌≡◌, ◌≤◌, length}
use Rattle.format_toml_nodes.specs.Laying.{JoinsFrom}
use Rattle.format_toml_nodes.proofs.join.join.Given as goal

-- the nodes from this one on are joined
abbrev pub invariant-loop-from : goal.invariant-loop-from
invariant-loop-from l = record {
  joins : JoinsFrom l.from l.initial.nodes l.nodes;
  within : l.from ≤ length l.initial.nodes;
  some : l.from ≡ 0 → length l.initial.nodes ≡ 0;
}

abbrev pub decreases-loop-from : goal.decreases-loop-from
decreases-loop-from l = l.from
