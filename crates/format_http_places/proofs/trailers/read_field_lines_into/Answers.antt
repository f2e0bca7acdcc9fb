use Rattle.format_http_places.proofs.Extents.{lines_told}
use Rattle.format_http_places.proofs.trailers.read_field_lines_into.Goals as goal

pub returns-in-Err-clause-read : goal.returns-in-Err-clause-read
returns-in-Err-clause-read c = lines_told c.args.bytes.now _ c.error_at.result c.error_at.ensures
