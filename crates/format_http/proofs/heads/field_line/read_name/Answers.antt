use Rattle.std.proofs.Common.{rules}
use Rattle.format_http.specs.Heads.Bytes.{IsTokenByte}
use Rattle.format_http.specs.Heads.Parts.{NameRead}
use Rattle.format_http.proofs.HeadsLemmas.Parts.{run_is}
use Rattle.winnow_grammar.specs.Read.{reads_by}
use Rattle.format_http.proofs.heads.field_line.read_name.Goals as goal

pub returns-clause-reads : goal.returns-clause-reads
returns-clause-reads c = reads_by {h = NameRead} c.read.ensures.reads (rw (
  c.terminated.ensures.parser,
  c.terminated.ensures.ignored,
  c.take_while-name.ensures.occurrences,
  run_is IsTokenByte 1 c.take_while-name.result.set,
))

pub returns-clause-spared : goal.returns-clause-spared
returns-clause-spared c = c.read.ensures.spared (search rules)
