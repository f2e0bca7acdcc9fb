use Rattle.format_http_places.proofs.Extents.{head_told}
use Rattle.format_http_places.proofs.read.read_head_into.Goals as goal

pub returns-in-Err-clause-read : goal.returns-in-Err-clause-read
returns-in-Err-clause-read c = head_told c.args.bytes.now _ c.error_at.result c.error_at.ensures
