use Rattle.winnow_grammar.specs.Read.{reads_by}
use Rattle.format_dns.proofs.labels.read_sized.Goals as goal

pub returns : goal.returns
returns g c = reads_by c.read.ensures.reads (rw (
  c.repeat.ensures.occurrences,
  c.repeat.ensures.parser,
  c.length_take.ensures,
))
