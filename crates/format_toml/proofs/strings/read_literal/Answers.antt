use Rattle.winnow_grammar.specs.Read.{reads_by}
use Rattle.format_toml.proofs.strings.read_literal.Goals as goal

pub returns : goal.returns
returns g c = reads_by c.read_between.ensures.reads (rw (
  c.repeat-characters.ensures.occurrences,
  c.repeat-characters.ensures.parser,
  c.one_of.ensures,
))
