use Rattle.format_http_chunked.proofs.Results.{told}
use Rattle.format_http_chunked.proofs.decoder.Decoder.advance.Goals as goal

pub returns-clause-told : goal.returns-clause-told
returns-clause-told c = told c.args.self.now c.run.new.self _ _ _ c.run.ensures.told
