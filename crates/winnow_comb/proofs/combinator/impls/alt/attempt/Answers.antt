use Rattle.std.proofs.Common.{rules}
use Rattle.winnow_comb.proofs.combinator.impls.alt.attempt.Goals as goal

pub returns-then-is_backtrack-clause-ran : goal.returns-then-is_backtrack-clause-ran
returns-then-is_backtrack-clause-ran g c = search rules depth 1

pub returns-else-is_backtrack-clause-ran : goal.returns-else-is_backtrack-clause-ran
returns-else-is_backtrack-clause-ran g c = search rules depth 1
