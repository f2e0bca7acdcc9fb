use Rattle.std.proofs.Common.{refl}
use Rattle.format_http_chunked.proofs.Turns.{exists_iff, quotes_escape, quotes_plain}
use Rattle.format_http_chunked.proofs.lines.turn_quotes.Goals as goal

pub returns-then-is_quoted : goal.returns-then-is_quoted
returns-then-is_quoted c size content trailers bytes =
    exists_iff (λ n. quotes_plain _ _ bytes (c.if-is_quoted.ensures.0 refl))

pub returns-in-92 : goal.returns-in-92
returns-in-92 c size content trailers bytes = exists_iff (λ n. quotes_escape _ _ bytes c.in-92.is)
