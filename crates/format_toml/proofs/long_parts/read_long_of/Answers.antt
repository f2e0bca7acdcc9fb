use Rattle.format_parts.specs.Marks.{three_by}
use Rattle.winnow_grammar.specs.Read.{reads_by}
use Rattle.format_toml.proofs.long_parts.read_long_of.Goals as goal

pub returns : goal.returns
returns g c = reads_by c.read.ensures.reads (three_by _ (rw c.delimited.ensures.ignored1)
    (rw (
      c.delimited.ensures.parser,
      c.preceded-body.ensures.ignored,
      c.preceded-body.ensures.parser,
      c.opt.ensures,
      c.terminated.ensures.parser,
      c.terminated.ensures.ignored,
      c.repeat-parts.ensures.occurrences,
      c.repeat-parts.ensures.parser,
    ))
    (rw c.delimited.ensures.ignored2))
