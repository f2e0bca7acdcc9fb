use Rattle.winnow_grammar.specs.Read.{reads_by}
use Rattle.format_toml.proofs.keys.read_bare.Goals as goal

pub returns : goal.returns
returns g c = reads_by c.read.ensures.reads (rw (
  c.repeat.ensures.occurrences,
  c.repeat.ensures.parser,
  c.one_of.ensures,
))
