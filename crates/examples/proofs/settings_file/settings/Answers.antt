use Rattle.winnow.specs.Grammar.{Longest}
use Rattle.examples.proofs.settings_file.settings.Goals as goal

pub returns : goal.returns
unfolding Longest
returns g c = rw (
  c.repeat-lines.ensures.occurrences,
  c.repeat-lines.ensures.parser,
  c.terminated-line.ensures.parser,
  c.terminated-line.ensures.ignored,
  c.separated_pair.ensures.first,
  c.separated_pair.ensures.separator,
  c.separated_pair.ensures.second,
  c.take_while-key.ensures.occurrences,
  c.take_while-key.ensures.set,
  c.take_while-value.ensures.occurrences,
  c.take_while-value.ensures.set,
) at c.read_all.ensures.reads
