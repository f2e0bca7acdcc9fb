use Rattle.format_http_places.proofs.Continues.{in_turn, no_longer, stops}
use Rattle.format_http_places.proofs.Heads.{request_read}
use Rattle.format_http_places.proofs.Lines.{past_fields, past_request}
use Rattle.format_http_places.proofs.Passed.{passed}
use Rattle.format_http_places.proofs.read.read_parts.Goals as goal

pub read_fields-requires : goal.read_fields-requires
read_fields-requires c = no_longer (past_request c.in_ok-line.ensures.is_line)

pub returns-in_err-found-clause-parts : goal.returns-in_err-found-clause-parts
returns-in_err-found-clause-parts c =
    passed _ _ _ c.in_err-found.field-0.0 c.from_residual-in_err-found.ensures.1
    (stops (past_request c.in_ok-line.ensures.is_line) c.in_err-found.ensures.found)

pub overflow_sub-result : goal.overflow_sub-result
overflow_sub-result c = no_longer (in_turn (past_request c.in_ok-line.ensures.is_line)
    (past_fields c.in_ok-found.ensures.found.are_fields))

pub returns-clause-parts : goal.returns-clause-parts
returns-clause-parts c = request_read c.in_ok-line.ensures c.in_ok-found.ensures.found

pub returns-clause-behind : goal.returns-clause-behind
returns-clause-behind c = c.in_ok-found.ensures.behind
