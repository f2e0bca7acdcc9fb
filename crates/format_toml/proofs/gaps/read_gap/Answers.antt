use Rattle.winnow_grammar.specs.Read.{reads_by}
use Rattle.format_toml.proofs.gaps.read_gap.Goals as goal

pub returns : goal.returns
returns g c = reads_by c.read_gap_of.ensures (rw (
  c.one_of.ensures,
  c.preceded-comment.ensures.ignored,
  c.preceded-comment.ensures.parser,
  c.take_while.ensures.occurrences,
  c.take_while.ensures.set,
  c.alt-newline.ensures,
  c.preceded.ensures.ignored,
  c.preceded.ensures.parser,
))
