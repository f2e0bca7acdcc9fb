use Rattle.format_http.proofs.HeadsLemmas.HeadRead.{fields_back, fields_there, lines_unique}
use Rattle.format_http.specs.Heads.Parts.{EndStands}
use Rattle.winnow_grammar.specs.Read.{err_as, ok_as}
use Rattle.winnow_grammar.specs.Steps.{first_err, second_err, steps_ok}
use Rattle.format_http.proofs.heads.head.read_fields.Goals as goal

pub returns-in-Ok-read_line_end : goal.returns-in-Ok-read_line_end
returns-in-Ok-read_line_end g c =
    ok_as (steps_ok c.in-Ok.ensures c.in-Ok-read_line_end.ensures.reads) (fields_there _ _)

pub returns-in-Err-read_line_end : goal.returns-in-Err-read_line_end
returns-in-Err-read_line_end g c =
    err_as (second_err lines_unique c.in-Ok.ensures c.in-Err-read_line_end.ensures.reads)
    fields_back

pub returns-in-Err : goal.returns-in-Err
returns-in-Err g c = err_as (first_err EndStands c.in-Err.ensures) fields_back
