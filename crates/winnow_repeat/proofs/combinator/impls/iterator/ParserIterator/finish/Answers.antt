use Rattle.std.proofs.Common.{rules}
use Rattle.winnow_repeat.proofs.combinator.impls.iterator.ParserIterator.finish.Goals as goal

pub returns-in-Stopped-clause-answer : goal.returns-in-Stopped-clause-answer
returns-in-Stopped-clause-answer g c = search rules depth 1
