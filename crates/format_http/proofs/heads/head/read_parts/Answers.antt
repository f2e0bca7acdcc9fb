use Rattle.format_http.specs.Heads.Head.{FieldsStand}
use Rattle.format_http.proofs.HeadsLemmas.HeadRead.{head_back, head_there}
use Rattle.winnow_grammar.specs.Read.{err_as, ok_as}
use Rattle.format_http.proofs.HeadsLemmas.RequestRead.{request_unique}
use Rattle.winnow_grammar.specs.Steps.{first_err, second_err, steps_ok}
use Rattle.format_http.proofs.heads.head.read_parts.Goals as goal

pub returns-in-Ok-read_fields : goal.returns-in-Ok-read_fields
returns-in-Ok-read_fields g c =
    ok_as (steps_ok c.in-Ok.ensures.reads c.in-Ok-read_fields.ensures) (head_there _ _)

pub returns-in-Err-read_fields : goal.returns-in-Err-read_fields
returns-in-Err-read_fields g c =
    err_as (second_err request_unique c.in-Ok.ensures.reads c.in-Err-read_fields.ensures) head_back

pub returns-in-Err : goal.returns-in-Err
returns-in-Err g c = err_as (first_err FieldsStand c.in-Err.ensures.reads) head_back
