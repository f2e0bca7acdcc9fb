use Rattle.std.proofs.Common.{◌+◌}
use Rattle.format_json_values.proofs.value.+fn-read_value-value+read_value.Given as goal

-- Measure: the values in a value have one level less.
abbrev pub decreases-value : goal.decreases-value
decreases-value g l = l.below + l.below + 2

abbrev pub decreases-read_value : goal.decreases-read_value
decreases-read_value g l = l.level + l.level + 1
