use Rattle.winnow_grammar.specs.Read.{reads_by}
use Rattle.format_toml.proofs.parts.read_gap_of.Goals as goal

pub returns : goal.returns
returns g c = reads_by c.read.ensures.reads (rw (
  c.repeat.ensures.occurrences,
  c.repeat.ensures.parser,
  c.alt-part.ensures,
  c.preceded.ensures.ignored,
  c.preceded.ensures.parser,
  c.opt.ensures,
))
