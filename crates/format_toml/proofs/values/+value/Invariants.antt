use Rattle.std.proofs.Common.{◌+◌}
use Rattle.format_toml.proofs.values.+value.Given as goal

-- Measure: the values in a value have one level less.
abbrev pub decreases-read_array-value : goal.decreases-read_array-value
decreases-read_array-value g l = l.below + l.below + l.below + l.below + l.below + 1

abbrev pub decreases-read_entry-value : goal.decreases-read_entry-value
decreases-read_entry-value g l = l.level + l.level + l.level + l.level + l.level + 1

abbrev pub decreases-read_inline-entry : goal.decreases-read_inline-entry
decreases-read_inline-entry g l = l.below + l.below + l.below + l.below + l.below + 3

abbrev pub decreases-read_array : goal.decreases-read_array
decreases-read_array g l = l.below + l.below + l.below + l.below + l.below + 4

abbrev pub decreases-read_entry : goal.decreases-read_entry
decreases-read_entry g l = l.level + l.level + l.level + l.level + l.level + 2

abbrev pub decreases-read_inline : goal.decreases-read_inline
decreases-read_inline g l = l.below + l.below + l.below + l.below + l.below + 4

abbrev pub decreases-read_value : goal.decreases-read_value
decreases-read_value g l = l.level + l.level + l.level + l.level + l.level
