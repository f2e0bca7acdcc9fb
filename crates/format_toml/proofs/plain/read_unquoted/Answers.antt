use Rattle.winnow_grammar.specs.Read.{reads_by}
use Rattle.format_toml.proofs.plain.read_unquoted.Goals as goal

pub returns : goal.returns
returns g = reads_by g.read_both_taken.ensures (rw (
  g.take_while-first.ensures.occurrences,
  g.take_while-first.ensures.set,
  g.take_while-hour.ensures.occurrences,
  g.take_while-hour.ensures.set,
  g.take_while-others.ensures.occurrences,
  g.take_while-others.ensures.set,
))
