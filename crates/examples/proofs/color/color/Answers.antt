use Rattle.winnow.specs.Grammar.{Longest}
use Rattle.examples.proofs.color.color.Goals as goal

pub returns : goal.returns
unfolding Longest
returns g c = rw (
  c.preceded-color.ensures.ignored,
  c.preceded-color.ensures.parser,
  c.take_while-red.ensures.occurrences,
  c.take_while-red.ensures.set,
  c.take_while-green.ensures.occurrences,
  c.take_while-green.ensures.set,
  c.take_while-blue.ensures.occurrences,
  c.take_while-blue.ensures.set,
) at c.read_all.ensures.reads
