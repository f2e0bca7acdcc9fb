use Rattle.std.proofs.Common.{rules}
use Rattle.format_http.specs.Heads.Bytes.{IsTokenByte, IsVisible}
use Rattle.format_http.proofs.HeadsLemmas.Parts.{run_is}
use Rattle.winnow_grammar.specs.Read.{reads_by}
use Rattle.format_http.specs.Heads.Parts.{MethodTarget}
use Rattle.format_http.proofs.heads.request_line.read_method_and_target.Goals as goal

pub returns-clause-reads : goal.returns-clause-reads
returns-clause-reads c = reads_by {h = MethodTarget} c.read.ensures.reads (rw (
  c.separated_pair.ensures.first,
  c.separated_pair.ensures.separator,
  c.separated_pair.ensures.second,
  c.take_while-method.ensures.occurrences,
  c.take_while-target.ensures.occurrences,
  run_is IsTokenByte 1 c.take_while-method.result.set,
  run_is IsVisible 1 c.take_while-target.result.set,
))

pub returns-clause-spared : goal.returns-clause-spared
returns-clause-spared c = c.read.ensures.spared (search rules)
