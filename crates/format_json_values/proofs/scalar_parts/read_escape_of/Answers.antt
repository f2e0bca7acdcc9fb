use Rattle.winnow_grammar.specs.Read.{reads_by}
use Rattle.format_json_values.proofs.scalar_parts.read_escape_of.Goals as goal

pub returns-clause-reads : goal.returns-clause-reads
returns-clause-reads g c = reads_by c.read.ensures.reads (rw (
  c.preceded-2.ensures.ignored,
  c.preceded-2.ensures.parser,
  c.alt.ensures,
  c.preceded.ensures.ignored,
  c.preceded.ensures.parser,
))

pub returns-clause-spared : goal.returns-clause-spared
returns-clause-spared g c backslash short letter unicode = c.read.ensures.spared (rw (
  c.preceded-2.ensures.ignored,
  c.preceded-2.ensures.parser,
  c.alt.ensures,
  c.preceded.ensures.ignored,
  c.preceded.ensures.parser,
) (backslash, (short, (letter, unicode))))
