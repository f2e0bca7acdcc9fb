use Rattle.format_http_chunked.proofs.Taking.{takes_nothing}
use Rattle.format_http_chunked.proofs.decoder.Decoder.pass_size_line.Goals as goal

pub returns-in-None-clause-told : goal.returns-in-None-clause-told
returns-in-None-clause-told c = takes_nothing _ _

pub returns-in-None-checked_sub-clause-told : goal.returns-in-None-checked_sub-clause-told
returns-in-None-checked_sub-clause-told c = takes_nothing _ _

pub returns-in-Some-checked_sub-clause-told : goal.returns-in-Some-checked_sub-clause-told
returns-in-Some-checked_sub-clause-told c = c.in-Some.ensures.1
