use Rattle.winnow_grammar.specs.Read.{reads_by}
use Rattle.format_parts.proofs.marks.read_between.Goals as goal

pub returns-clause-ran : goal.returns-clause-ran
returns-clause-ran g c = (
  _,
  rw (
    c.delimited.ensures.ignored1,
    c.delimited.ensures.parser,
    c.delimited.ensures.ignored2,
  ) at c.read.ensures.ran,
)

pub returns-clause-reads : goal.returns-clause-reads
returns-clause-reads g c = reads_by c.read.ensures.reads (rw (
  c.delimited.ensures.ignored1,
  c.delimited.ensures.parser,
  c.delimited.ensures.ignored2,
))

pub returns-clause-spared : goal.returns-clause-spared
returns-clause-spared g c first second third = c.read.ensures.spared (rw (
  c.delimited.ensures.ignored1,
  c.delimited.ensures.parser,
  c.delimited.ensures.ignored2,
) (first, second, third))
