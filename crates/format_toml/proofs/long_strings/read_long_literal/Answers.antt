use Rattle.winnow_grammar.specs.Read.{reads_by}
use Rattle.format_toml.proofs.long_strings.read_long_literal.Goals as goal

pub returns : goal.returns
returns g c = reads_by c.read_long_of.ensures (rw (
  c.alt-newline.ensures,
  c.preceded.ensures.ignored,
  c.preceded.ensures.parser,
))
