use Rattle.std.proofs.Common.{refl}
use Rattle.format_http.proofs.HeadsLemmas.FieldRead.{field_back, field_there, pair_unique}
use Rattle.format_http.specs.Heads.Parts.{EndStands}
use Rattle.winnow_grammar.specs.Read.{err_as, ok_as}
use Rattle.winnow_grammar.specs.Steps.{first_err, second_err, steps_ok}
use Rattle.format_http.proofs.heads.field_line.read_line.Goals as goal

pub returns-in-Ok-read_line_end-clause-reads : goal.returns-in-Ok-read_line_end-clause-reads
returns-in-Ok-read_line_end-clause-reads c =
    ok_as (steps_ok c.in-Ok.ensures.reads c.in-Ok-read_line_end.ensures.reads) (field_there _ _ _)

pub returns-in-Err-read_line_end-clause-reads : goal.returns-in-Err-read_line_end-clause-reads
returns-in-Err-read_line_end-clause-reads c =
    err_as (second_err pair_unique c.in-Ok.ensures.reads c.in-Err-read_line_end.ensures.reads)
    field_back

pub returns-in-Err-clause-reads : goal.returns-in-Err-clause-reads
returns-in-Err-clause-reads c = err_as (first_err EndStands c.in-Err.ensures.reads) field_back

pub returns-in-Err-clause-spared : goal.returns-in-Err-clause-spared
returns-in-Err-clause-spared c = λ is. c.in-Err.ensures.spared refl

pub returns-in-Err-read_line_end-clause-spared : goal.returns-in-Err-read_line_end-clause-spared
returns-in-Err-read_line_end-clause-spared c = λ is. c.in-Err-read_line_end.ensures.spared refl
