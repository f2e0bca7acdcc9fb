use Rattle.winnow_grammar.specs.Read.{reads_by}
use Rattle.format_toml.proofs.long_strings.read_basic_part.Goals as goal

pub returns : goal.returns
returns g c = reads_by c.read_part_of.ensures (rw (
  c.alt-content.ensures,
  c.alt-newline.ensures,
  c.preceded.ensures.ignored,
  c.preceded.ensures.parser,
  c.by-quote.ensures.rule,
))
