use Rattle.winnow_grammar.specs.Read.{reads_by}
use Rattle.format_toml.proofs.long_parts.read_escaped_of.Goals as goal

pub returns : goal.returns
returns g c = reads_by c.read.ensures.reads (rw (
  c.preceded-3.ensures.ignored,
  c.preceded-3.ensures.parser,
  c.preceded-2.ensures.ignored,
  c.preceded-2.ensures.parser,
  c.preceded.ensures.ignored,
  c.preceded.ensures.parser,
  c.repeat-blanks.ensures.occurrences,
  c.repeat-blanks.ensures.parser,
))
