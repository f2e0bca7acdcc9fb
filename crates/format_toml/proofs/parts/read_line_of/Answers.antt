use Rattle.format_parts.specs.Marks.{three_by}
use Rattle.winnow_grammar.specs.Read.{reads_by}
use Rattle.format_toml.proofs.parts.read_line_of.Goals as goal

pub returns : goal.returns
returns g c = reads_by c.read.ensures.reads (three_by _ (rw c.delimited.ensures.ignored1)
    (rw (
      c.delimited.ensures.parser,
      c.opt.ensures,
      c.terminated.ensures.parser,
      c.terminated.ensures.ignored,
    ))
    (rw (c.delimited.ensures.ignored2, c.opt-2.ensures)))
