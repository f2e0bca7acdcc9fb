use Rattle.std.proofs.Common.{refl, rules}
use Rattle.format_http.specs.Heads.Bytes.{IsValueByte}
use Rattle.format_http.proofs.HeadsLemmas.Parts.{run_is}
use Rattle.format_http.proofs.HeadsLemmas.StatusRead.{ReasonRead, none_there, reason_back}
use Rattle.format_http.proofs.HeadsLemmas.StatusRead.{some_there}
use Rattle.winnow_grammar.specs.Read.{err_as, ok_as, reads_by}
use Rattle.format_http.proofs.responses.status_line.read_reason.Goals as goal

pub returns-in-Ok-Some-clause-reads : goal.returns-in-Ok-Some-clause-reads
returns-in-Ok-Some-clause-reads c =
    let last = c.as_slice-end.result in
    ok_as (reads_by {h = ReasonRead last}
    (rw c.in-Ok-Some.field-0-is at c.in-Ok-Some.ensures.reads) (rw (
      c.terminated.ensures.parser,
      c.terminated.ensures.ignored,
      c.opt.ensures,
      c.preceded.ensures.ignored,
      c.preceded.ensures.parser,
      c.take_while-text.ensures.occurrences,
      run_is IsValueByte 0 c.take_while-text.result.set,
    ))) (some_there last c.as_slice-end.ensures _)

pub returns-in-Ok-None-clause-reads : goal.returns-in-Ok-None-clause-reads
returns-in-Ok-None-clause-reads c =
    let last = c.as_slice-end.result in
    ok_as (reads_by {h = ReasonRead last}
    (rw c.in-Ok-None.field-0-is at c.in-Ok-None.ensures.reads) (rw (
      c.terminated.ensures.parser,
      c.terminated.ensures.ignored,
      c.opt.ensures,
      c.preceded.ensures.ignored,
      c.preceded.ensures.parser,
      c.take_while-text.ensures.occurrences,
      run_is IsValueByte 0 c.take_while-text.result.set,
    ))) (λ bytes rest x.
    none_there last c.as_slice-end.ensures c.as_slice.result bytes rest c.as_slice.ensures x)

pub returns-in-Err-clause-reads : goal.returns-in-Err-clause-reads
returns-in-Err-clause-reads c =
    let last = c.as_slice-end.result in
    err_as (reads_by {h = ReasonRead last} c.in-Err.ensures.reads (rw (
      c.terminated.ensures.parser,
      c.terminated.ensures.ignored,
      c.opt.ensures,
      c.preceded.ensures.ignored,
      c.preceded.ensures.parser,
      c.take_while-text.ensures.occurrences,
      run_is IsValueByte 0 c.take_while-text.result.set,
    ))) (reason_back last c.as_slice-end.ensures)

pub returns-in-Err-clause-spared : goal.returns-in-Err-clause-spared
returns-in-Err-clause-spared c = λ is. c.in-Err.ensures.spared (search rules) refl
