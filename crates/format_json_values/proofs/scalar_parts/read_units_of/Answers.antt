use Rattle.winnow_grammar.specs.Read.{reads_by}
use Rattle.format_json_values.proofs.scalar_parts.read_units_of.Goals as goal

pub returns-clause-reads : goal.returns-clause-reads
returns-clause-reads g c = reads_by c.read.ensures.reads (rw (
  c.preceded.ensures.ignored,
  c.preceded.ensures.parser,
))

pub returns-clause-spared : goal.returns-clause-spared
returns-clause-spared g c first backslash letter second = c.read.ensures.spared (rw (
  c.preceded.ensures.ignored,
  c.preceded.ensures.parser,
) (first, ((backslash, letter), second)))
