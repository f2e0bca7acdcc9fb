use Rattle.format_toml_nodes.specs.Laying.{Each, Keeps}
use Rattle.format_toml_nodes.proofs.Elements.{NumbersSo}
use Rattle.format_toml_nodes.proofs.links.put_elements.Given as goal

-- the nodes of the elements before this one have their position
abbrev pub invariant-loop-index : goal.invariant-loop-index
invariant-loop-index g l = record {
  keeps : Each Keeps l.initial.nodes l.nodes;
  numbers : NumbersSo l.slots l.parent l.initial.nodes l.index l.nodes;
}
