use Rattle.format_http.specs.Heads.Head.{FieldsStand}
use Rattle.format_http.proofs.HeadsLemmas.ResponseRead.{response_back, response_there}
use Rattle.format_http.proofs.HeadsLemmas.StatusRead.{status_unique}
use Rattle.winnow_grammar.specs.Read.{err_as, ok_as}
use Rattle.winnow_grammar.specs.Steps.{first_err, second_err, steps_ok}
use Rattle.format_http.proofs.responses.head.read_parts.Goals as goal

pub returns-in-Ok-read_fields : goal.returns-in-Ok-read_fields
returns-in-Ok-read_fields g c =
    ok_as (steps_ok c.in-Ok.ensures.reads c.in-Ok-read_fields.ensures) (response_there _ _)

pub returns-in-Err-read_fields : goal.returns-in-Err-read_fields
returns-in-Err-read_fields g c =
    err_as (second_err status_unique c.in-Ok.ensures.reads c.in-Err-read_fields.ensures)
    response_back

pub returns-in-Err : goal.returns-in-Err
returns-in-Err g c = err_as (first_err FieldsStand c.in-Err.ensures.reads) response_back
