use Rattle.format_parts.specs.Marks.{reads_all_by}
use Rattle.format_toml.proofs.StatementsLemmas.{lines_fault, lines_list}
use Rattle.format_toml.proofs.parts.parse_lines_of.Goals as goal

pub returns-in-Ok : goal.returns-in-Ok
returns-in-Ok g c = lines_list _ c.exact.ensures (reads_all_by c.in-Ok.ensures.reads (rw (
  c.separated-lines.ensures.occurrences,
  c.separated-lines.ensures.parser,
  c.separated-lines.ensures.separator,
)))

pub returns : goal.returns
returns g c = lines_fault _ (reads_all_by c.in-Err.ensures.reads (rw (
  c.separated-lines.ensures.occurrences,
  c.separated-lines.ensures.parser,
  c.separated-lines.ensures.separator,
)))
