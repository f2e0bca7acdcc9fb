use Rattle.std.proofs.Common.{◌≡◌, ◌+◌, ◌≤◌, drop, length, min}
use Rattle.format_toml_nodes.specs.Laying.{most, text_len, total}
use Rattle.format_toml_nodes.proofs.Placed.{ApartSo, ShowsSo}
use Rattle.format_toml_nodes.proofs.links.put_values.Given as goal

-- the places before this one are put
abbrev pub invariant-loop-place : goal.invariant-loop-place
invariant-loop-place g l = record {
  small : l.end ≤ most;
  count : min (l.end + total text_len (drop l.place l.slots)) most
      ≡ min (total text_len l.slots) most;
  same : (length l.buffer ≡ length l.initial.buffer)
      × (length l.nodes ≡ length l.initial.nodes);
  shows : ShowsSo l.slots l.place l.end l.buffer l.nodes;
  apart : ApartSo l.slots l.place l.nodes;
}
