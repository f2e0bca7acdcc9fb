use Rattle.format_http_chunked.proofs.Turns.{exists_iff, extended_semicolon, extended_white}
use Rattle.format_http_chunked.proofs.Turns.{white_of}
use Rattle.format_http_chunked.proofs.lines.turn_behind.Goals as goal

pub returns-in-59 : goal.returns-in-59
returns-in-59 c size content trailers bytes =
    exists_iff (λ n. extended_semicolon _ c.args.byte bytes c.in-59.is)

pub returns-in-32 : goal.returns-in-32
returns-in-32 c size content trailers bytes =
    exists_iff (λ n. extended_white _ c.args.byte bytes (white_of _ c.in-32.is))
