use Rattle.std.proofs.Common.{arith}
use Rattle.format_http_chunked.proofs.Digits.{chunk_behind, last_behind_at}
use Rattle.format_http_chunked.proofs.framing.place_behind.Goals as goal

pub returns-in-None : goal.returns-in-None
returns-in-None c = last_behind_at c.args.size (omega (arith, c.in-None.ensures))

pub returns-in-Some : goal.returns-in-Some
returns-in-Some c = chunk_behind c.args.size (λ e. omega (arith, e, c.in-Some.ensures))
