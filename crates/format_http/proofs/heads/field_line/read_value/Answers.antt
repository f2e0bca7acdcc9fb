use Rattle.std.proofs.Common.{refl, rules}
use Rattle.format_http.specs.Heads.Bytes.{IsValueByte, IsWhite}
use Rattle.format_http.proofs.HeadsLemmas.FieldRead.{ValueRead, value_back, value_there}
use Rattle.format_http.proofs.HeadsLemmas.Parts.{run_is}
use Rattle.winnow_grammar.specs.Read.{err_as, ok_as, reads_by}
use Rattle.format_http.proofs.heads.field_line.read_value.Goals as goal

pub returns-in-Ok-clause-reads : goal.returns-in-Ok-clause-reads
returns-in-Ok-clause-reads c = ok_as (reads_by {h = ValueRead} c.in-Ok.ensures.reads (rw (
  c.preceded.ensures.ignored,
  c.preceded.ensures.parser,
  c.take_while-white.ensures.occurrences,
  c.take_while-text.ensures.occurrences,
  run_is IsWhite 0 c.take_while-white.result.set,
  run_is IsValueByte 0 c.take_while-text.result.set,
))) (value_there _ _ c.trimmed.ensures)

pub returns-in-Err-clause-reads : goal.returns-in-Err-clause-reads
returns-in-Err-clause-reads c = err_as (reads_by {h = ValueRead} c.in-Err.ensures.reads (rw (
  c.preceded.ensures.ignored,
  c.preceded.ensures.parser,
  c.take_while-white.ensures.occurrences,
  c.take_while-text.ensures.occurrences,
  run_is IsWhite 0 c.take_while-white.result.set,
  run_is IsValueByte 0 c.take_while-text.result.set,
))) value_back

pub returns-in-Err-clause-spared : goal.returns-in-Err-clause-spared
returns-in-Err-clause-spared c = λ is. c.in-Err.ensures.spared (search rules) refl
