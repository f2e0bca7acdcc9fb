use Rattle.std.proofs.Common.{rules}
use Rattle.example_formulas.proofs.sizes.unit_clones_are_equal.Goals as goal

pub returns : goal.returns
returns c u o is = search rules
