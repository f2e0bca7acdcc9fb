use Rattle.winnow_grammar.specs.Read.{reads_by}
use Rattle.format_toml.proofs.lines.read_line.Goals as goal

pub returns : goal.returns
returns g c = reads_by c.read_line_of.ensures (rw (
  c.by-item.ensures.rule,
  c.preceded-comment.ensures.ignored,
  c.preceded-comment.ensures.parser,
  c.take_while.ensures.occurrences,
  c.take_while.ensures.set,
))
