use Rattle.winnow_grammar.specs.Read.{reads_by}
use Rattle.format_toml.proofs.long_parts.read_quote_of.Goals as goal

pub returns : goal.returns
returns g c = reads_by c.read.ensures.reads (rw (
  c.terminated.ensures.parser,
  c.terminated.ensures.ignored,
  c.peek.ensures,
  c.opt.ensures,
  c.not.ensures,
))
