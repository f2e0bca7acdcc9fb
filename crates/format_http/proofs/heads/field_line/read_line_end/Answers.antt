use Rattle.std.proofs.Common.{refl, rules}
use Rattle.format_http.proofs.HeadsLemmas.Parts.{end_back, end_there}
use Rattle.winnow_grammar.specs.Read.{err_as, ok_as}
use Rattle.format_http.proofs.heads.field_line.read_line_end.Goals as goal

pub returns-in-Ok-clause-reads : goal.returns-in-Ok-clause-reads
returns-in-Ok-clause-reads c =
    ok_as c.in-Ok.ensures.reads (end_there c.as_slice.result c.as_slice.ensures _ _)

pub returns-in-Err-clause-reads : goal.returns-in-Err-clause-reads
returns-in-Err-clause-reads c =
    err_as c.in-Err.ensures.reads (end_back c.as_slice.result c.as_slice.ensures)

pub returns-in-Err-clause-spared : goal.returns-in-Err-clause-spared
returns-in-Err-clause-spared c = λ is. c.in-Err.ensures.spared (search rules) refl
