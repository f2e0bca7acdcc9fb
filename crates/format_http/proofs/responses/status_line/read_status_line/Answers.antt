use Rattle.std.proofs.Common.{refl}
use Rattle.winnow_grammar.specs.Read.{err_as, ok_as}
use Rattle.format_http.specs.Responses.Parts.{ReasonStands}
use Rattle.format_http.proofs.HeadsLemmas.StatusRead.{protocol_code_unique, status_back}
use Rattle.format_http.proofs.HeadsLemmas.StatusRead.{status_there}
use Rattle.winnow_grammar.specs.Steps.{first_err, second_err, steps_ok}
use Rattle.format_http.proofs.responses.status_line.read_status_line.Goals as goal

pub returns-in-Ok-read_reason-clause-reads : goal.returns-in-Ok-read_reason-clause-reads
returns-in-Ok-read_reason-clause-reads c =
    ok_as (steps_ok c.in-Ok.ensures.reads c.in-Ok-read_reason.ensures.reads)
    (status_there _ _ _ _)

pub returns-in-Err-read_reason-clause-reads : goal.returns-in-Err-read_reason-clause-reads
returns-in-Err-read_reason-clause-reads c =
    err_as (second_err protocol_code_unique c.in-Ok.ensures.reads
    c.in-Err-read_reason.ensures.reads) status_back

pub returns-in-Err-clause-reads : goal.returns-in-Err-clause-reads
returns-in-Err-clause-reads c = err_as (first_err ReasonStands c.in-Err.ensures.reads) status_back

pub returns-in-Err-clause-spared : goal.returns-in-Err-clause-spared
returns-in-Err-clause-spared c = λ is. c.in-Err.ensures.spared refl

pub returns-in-Err-read_reason-clause-spared : goal.returns-in-Err-read_reason-clause-spared
returns-in-Err-read_reason-clause-spared c = λ is. c.in-Err-read_reason.ensures.spared refl
