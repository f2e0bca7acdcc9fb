use Rattle.std.proofs.Common.{refl}
use Rattle.winnow_grammar.specs.Read.{reads_by}
use Rattle.format_toml.proofs.StatementsLemmas.{former_keeps, gathered_keeps, optional_keeps}
use Rattle.format_toml.proofs.StatementsLemmas.{reads_kept, second_keeps}
use Rattle.format_toml.proofs.parts.read_list.Goals as goal

pub returns-in-Ok-Some : goal.returns-in-Ok-Some
returns-in-Ok-Some g c =
    reads_kept (second_keeps (optional_keeps (former_keeps (gathered_keeps _) _)) _ _)
    (c.in-Ok-Some.list, c.exact.result, c.in-Ok-Some.field-0-is, refl, c.exact.ensures)
    (reads_by c.in-Ok-Some.ensures (rw (
      c.terminated-all.ensures.parser,
      c.terminated-all.ensures.ignored,
      c.opt.ensures,
      c.separated-elements.ensures.occurrences,
      c.separated-elements.ensures.parser,
      c.separated-elements.ensures.separator,
    )))

pub returns-in-Ok-None : goal.returns-in-Ok-None
returns-in-Ok-None g c = reads_by (rw c.in-Ok-None.field-0-is at c.in-Ok-None.ensures) (rw (
  c.terminated-all.ensures.parser,
  c.terminated-all.ensures.ignored,
  c.opt.ensures,
  c.separated-elements.ensures.occurrences,
  c.separated-elements.ensures.parser,
  c.separated-elements.ensures.separator,
))

pub returns-in-Err : goal.returns-in-Err
returns-in-Err g c = reads_by c.in-Err.ensures (rw (
  c.terminated-all.ensures.parser,
  c.terminated-all.ensures.ignored,
  c.opt.ensures,
  c.separated-elements.ensures.occurrences,
  c.separated-elements.ensures.parser,
  c.separated-elements.ensures.separator,
))
