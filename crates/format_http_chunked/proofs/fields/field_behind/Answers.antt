use Rattle.std.proofs.Common.{refl}
use Rattle.format_http_chunked.proofs.Taking.{name_begins_at}
use Rattle.format_http_chunked.proofs.fields.field_behind.Goals as goal

pub returns-then-is_token-clause-some : goal.returns-then-is_token-clause-some
returns-then-is_token-clause-some c =
    name_begins_at c.args.at c.args.byte c.in-Start.is (c.if-is_token.ensures.0 refl)
