use Rattle.format_http_places.proofs.Continues.{no_longer}
use Rattle.format_http_places.proofs.Heads.{trailers_read}
use Rattle.format_http_places.proofs.Lines.{past_fields}
use Rattle.format_http_places.proofs.Passed.{passed}
use Rattle.format_http_places.proofs.trailers.read_lines.Goals as goal

pub returns-in_err-found-clause-lines : goal.returns-in_err-found-clause-lines
returns-in_err-found-clause-lines c =
    passed _ _ _ c.in_err-found.field-0.0 c.from_residual.ensures.1 c.in_err-found.ensures.found

pub overflow_sub-result : goal.overflow_sub-result
overflow_sub-result c = no_longer (past_fields c.in_ok-found.ensures.found.are_fields)

pub returns-clause-lines : goal.returns-clause-lines
returns-clause-lines c = trailers_read c.in_ok-found.ensures.found

pub returns-clause-behind : goal.returns-clause-behind
returns-clause-behind c = c.in_ok-found.ensures.behind
