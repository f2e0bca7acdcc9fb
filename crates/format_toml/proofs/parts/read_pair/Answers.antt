use Rattle.winnow_grammar.specs.Read.{reads_by}
use Rattle.format_toml.proofs.parts.read_pair.Goals as goal

pub returns : goal.returns
returns g c = reads_by c.read.ensures.reads (rw (
  c.separated_pair.ensures.first,
  c.separated_pair.ensures.separator,
  c.separated_pair.ensures.second,
))
