use Rattle.format_http_chunked.proofs.Results.{starts_with_nothing_given}
use Rattle.format_http_chunked.proofs.decoder.Decoder.new.Goals as goal

pub returns-clause-told : goal.returns-clause-told
returns-clause-told c = starts_with_nothing_given
