use Rattle.std.proofs.Common.{◌≡◌, ◌+◌, ◌≤◌, drop, min}
use Rattle.format_toml_nodes.specs.Laying.{Each, Grows, Keeps, most, names_len, total}
use Rattle.format_toml_nodes.proofs.Elements.{LeadsSo}
use Rattle.format_toml_nodes.proofs.links.put_links.Given as goal

-- the nodes below the slots before this one have their position
abbrev pub invariant-loop-parent : goal.invariant-loop-parent
invariant-loop-parent g l = record {
  small : l.end ≤ most;
  count : min (l.end + total names_len (drop l.parent l.slots)) most
      ≡ min (l.at + total names_len l.slots) most;
  grows : Grows l.at l.initial.buffer l.end l.buffer;
  keeps : Each Keeps l.initial.nodes l.nodes;
  leads : LeadsSo l.slots l.at l.initial.buffer l.initial.nodes l.parent l.end l.buffer l.nodes;
}
