use Rattle.std.proofs.Common.{rules}
use Rattle.winnow_repeat.proofs.combinator.items.is_descending.Goals as goal

pub returns-in-Some : goal.returns-in-Some
returns-in-Some c = search rules depth 1
