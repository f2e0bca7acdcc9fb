-- Loop invariant: the items end from here where they end from the first item, and the nodes of
-- those before are written.
use Rattle.std.proofs.Common.{◌*◌, ◌+◌, length}
use Rattle.format_json_extents.proofs.Scanning.{SameMatches}
use Rattle.format_json_extents.specs.Value.{IsItemsTail, IsValue}
use Rattle.format_json_extents.specs.Nodes.{ValueNodes}
use Rattle.format_json_extents.specs.NodeWriting.{WritesItems}
use Rattle.format_json_extents.proofs.nodes.+nesting.Given as goal

abbrev pub decreases-put_inside : goal.decreases-put_inside
decreases-put_inside l = 3 * l.level + 2

abbrev pub decreases-put_items : goal.decreases-put_items
decreases-put_items l = 3 * l.level + 1

abbrev pub decreases-put_value : goal.decreases-put_value
decreases-put_value l = 3 * l.level

abbrev pub invariant-put_items-items : goal.invariant-put_items-items
invariant-put_items-items l = record {
  same : SameMatches (IsItemsTail l.keyed (IsValue l.level)) l.bytes l.rest;
  wrote : WritesItems l.keyed (ValueNodes l.level) l.size l.index l.bytes l.rest l.count
      l.initial.nodes l.nodes;
}

abbrev pub decreases-put_items-items : goal.decreases-put_items-items
decreases-put_items-items l = length l.rest
