use Rattle.std.proofs.Common.{◌+◌}
use Rattle.examples.proofs.nested.+fn-read_tree-element+read_tree.Given as goal

-- Each recursive call is one nesting depth lower.
abbrev pub decreases-element : goal.decreases-element
decreases-element g l = l.below + l.below + 2

abbrev pub decreases-read_tree : goal.decreases-read_tree
decreases-read_tree g l = l.level + l.level + 1
