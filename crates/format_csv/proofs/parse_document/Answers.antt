use Rattle.format_csv.proofs.Reading.{reads_document}
use Rattle.format_csv.proofs.parse_document.Goals as goal

pub returns : goal.returns
returns g c = reads_document c.args.end c.read_all.ensures.reads (rw (
  c.repeat.ensures.occurrences,
  c.repeat.ensures.parser,
  c.by-record.ensures.rule,
))
