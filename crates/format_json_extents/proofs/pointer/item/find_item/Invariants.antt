-- Loop invariant: the items before here are not selected, and the items end from here where they
-- end from the first item.
use Rattle.std.proofs.Common.{length}
use Rattle.format_json_extents.proofs.Scanning.{SameMatches}
use Rattle.format_json_extents.specs.Pointer.{PassesItems}
use Rattle.format_json_extents.specs.Value.{IsItemsTail, IsValue}
use Rattle.format_json_extents.proofs.pointer.item.find_item.Given as goal

abbrev pub invariant-items : goal.invariant-items
invariant-items l = record {
  same : SameMatches (IsItemsTail l.keyed (IsValue l.level)) l.inside l.rest;
  passes : PassesItems l.keyed l.level l.fn.index l.token l.inside l.rest l.left;
}

abbrev pub decreases-items : goal.decreases-items
decreases-items l = length l.rest
