-- Loop invariant: the items end from here where they end from the opening bracket.
use Rattle.std.proofs.Common.{◌*◌, ◌+◌, length}
use Rattle.format_json_extents.proofs.Scanning.{SameMatches}
use Rattle.format_json_extents.specs.Value.{IsItemsTail, IsValue}
use Rattle.format_json_extents.proofs.value.+nesting.Given as goal

abbrev pub decreases-skip_items : goal.decreases-skip_items
decreases-skip_items l = 2 * l.level + 1

abbrev pub decreases-skip_value : goal.decreases-skip_value
decreases-skip_value l = 2 * l.level

abbrev pub invariant-skip_items-items : goal.invariant-skip_items-items
invariant-skip_items-items l =
    SameMatches (IsItemsTail l.keyed (IsValue l.level)) l.bytes l.rest

abbrev pub decreases-skip_items-items : goal.decreases-skip_items-items
decreases-skip_items-items l = length l.rest
