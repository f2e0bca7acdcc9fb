use Rattle.winnow.specs.Grammar.{Longest}
use Rattle.examples.proofs.version.version.Goals as goal

pub returns : goal.returns
unfolding Longest
returns g c = rw (
  c.terminated.ensures.ignored,
  c.terminated-2.ensures.ignored,
  c.opt-words.ensures,
  c.preceded.ensures.ignored,
  c.preceded.ensures.parser,
  c.separated.ensures.occurrences,
  c.separated.ensures.parser,
  c.separated.ensures.separator,
  c.take_while-word.ensures.occurrences,
  c.take_while-word.ensures.set,
) at c.read_all.ensures.reads
