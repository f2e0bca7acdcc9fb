use Rattle.format_http_places.proofs.Extents.{response_told}
use Rattle.format_http_places.proofs.response.read_response_head_into.Goals as goal

pub returns-in-Err-clause-read : goal.returns-in-Err-clause-read
returns-in-Err-clause-read c = response_told c.args.bytes.now _ c.error_at.result c.error_at.ensures
