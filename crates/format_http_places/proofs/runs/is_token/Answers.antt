-- The table is held against the test at each of the 256 bytes, by computing.
use Rattle.std.proofs.Common.{get_or, not, nat_eq, refl, arith}
use Rattle.std.proofs.lemmas.Bool.{agree_below_at}
use Rattle.format_http_places.specs.declared.runs.TheConstants.{TOKENS}
use Rattle.format_http_places.proofs.Tests.{is_token, token_tells}
use Rattle.format_http_places.proofs.runs.is_token.Goals as goal

pub returns : goal.returns
returns c = token_tells c.args.byte _
    (agree_below_at (λ k. not (nat_eq (get_or TOKENS k 0) 44)) is_token 256 c.args.byte refl
    (omega arith))
