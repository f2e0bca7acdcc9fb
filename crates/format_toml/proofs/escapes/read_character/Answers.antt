use Rattle.winnow_grammar.specs.Read.{reads_by}
use Rattle.format_toml.proofs.escapes.read_character.Goals as goal

pub returns : goal.returns
returns c = reads_by c.read.ensures.reads (rw (
  c.alt.ensures,
  c.one_of.ensures,
  c.preceded-escaped.ensures.ignored,
))
