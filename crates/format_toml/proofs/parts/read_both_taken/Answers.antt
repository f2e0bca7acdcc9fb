use Rattle.winnow_grammar.specs.Read.{reads_by}
use Rattle.format_toml.proofs.parts.read_both_taken.Goals as goal

pub returns : goal.returns
returns g c = reads_by c.read.ensures.reads (rw (
  c.take.ensures,
  c.opt.ensures,
))
