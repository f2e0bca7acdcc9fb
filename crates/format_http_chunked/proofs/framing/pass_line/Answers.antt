use Rattle.format_http_chunked.proofs.SizeLines.{line_taken}
use Rattle.format_http_chunked.proofs.framing.pass_line.Goals as goal

pub returns : goal.returns
returns c = line_taken _ _ _ _ _ _ _ _ _ _ c.in_ok-line.ensures c.in_ok-first.ensures.cases.0
    c.in_ok-digit.ensures.some.0 c.in_ok-digit.ensures.some.1 c.pass_digits-size.ensures
    c.in_ok-rest.ensures c.place_behind.ensures
