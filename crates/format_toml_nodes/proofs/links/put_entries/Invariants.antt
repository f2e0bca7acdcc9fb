use Rattle.std.proofs.Common.{◌≡◌, ◌+◌, ◌≤◌, min, slice_get, Some}
use Rattle.format_toml_nodes.specs.Laying.{Each, Grows, Keeps, most, name_len, names_len, total}
use Rattle.format_toml_nodes.proofs.Entries.{FoundSo, NamesSo}
use Rattle.format_toml_tree.specs.declared.tree.Slot.{Slot}
use Rattle.format_toml_nodes.proofs.links.put_entries.Given as goal

-- the entries that are left are still to name
abbrev pub invariant-loop-name : goal.invariant-loop-name
invariant-loop-name g l = record {
  small : l.end ≤ most;
  count : (s : Slot _) → slice_get l.slots l.parent ≡ Some s
      → min (l.end + total name_len l.name-iterator) most ≡ min (l.at + names_len s) most;
  grows : Grows l.at l.initial.buffer l.end l.buffer;
  keeps : Each Keeps l.initial.nodes l.nodes;
  found : FoundSo l.slots l.parent l.at l.initial.buffer l.initial.nodes l.name-iterator;
  names : NamesSo l.slots l.parent l.at l.initial.buffer l.initial.nodes l.name-iterator
      l.end l.buffer l.nodes;
}
