use Rattle.format_http_chunked.proofs.Turns.{iff_trans}
use Rattle.format_http_chunked.proofs.framing.after_in_line.Goals as goal

pub returns-in-Ends-clause-some : goal.returns-in-Ends-clause-some
returns-in-Ends-clause-some c content trailers bytes = iff_trans
    (c.in-Ends.ensures c.args.size content trailers bytes)
    (c.place_behind.ensures content trailers bytes)
