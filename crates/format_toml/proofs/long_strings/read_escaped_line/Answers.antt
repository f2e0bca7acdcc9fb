use Rattle.winnow_grammar.specs.Read.{reads_by}
use Rattle.format_toml.proofs.long_strings.read_escaped_line.Goals as goal

pub returns : goal.returns
returns g c = reads_by c.read_escaped_of.ensures (rw (
  c.alt-newline.ensures,
  c.preceded.ensures.ignored,
  c.preceded.ensures.parser,
  c.alt-blank.ensures,
  c.one_of.ensures,
  c.alt-end.ensures,
  c.preceded-2.ensures.ignored,
  c.preceded-2.ensures.parser,
))
