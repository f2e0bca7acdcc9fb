use Rattle.std.proofs.Common.{inl, inr}
use Rattle.format_http_places.proofs.Passed.{passed, told}
use Rattle.format_http_places.proofs.line.read_line_end.Goals as goal

pub returns-in_err-line_feed : goal.returns-in_err-line_feed
returns-in_err-line_feed c = passed _ _ _ c.in_err-line_feed.field-0.0 c.from_residual.ensures.1
    (inl c.in_err-line_feed.ensures)

pub returns : goal.returns
returns c = told _ _ _ _ c.read_byte-2.result (λ rest e. cc (c.in_ok-line_feed.ensures, e))
    (λ stop it. inr (c.in_ok-line_feed.line_feed.now, c.in_ok-line_feed.ensures, it.0, it.1))
    c.read_byte-2.ensures
