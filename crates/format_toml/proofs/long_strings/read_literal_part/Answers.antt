use Rattle.winnow_grammar.specs.Read.{reads_by}
use Rattle.format_toml.proofs.long_strings.read_literal_part.Goals as goal

pub returns : goal.returns
returns c = reads_by c.read_part_of.ensures (rw (
  c.alt-content.ensures,
  c.one_of.ensures,
  c.alt-newline.ensures,
  c.preceded.ensures.ignored,
  c.preceded.ensures.parser,
  c.by-quote.ensures.rule,
))
