use Rattle.std.proofs.Common.{ap}
use Rattle.format_http_chunked.specs.State.{decoder_by}
use Rattle.exported.proofs.http.chunked.a_state_begins_at_zeros_and_at_one.Goals as goal

pub returns-clause-zeros : goal.returns-clause-zeros
returns-clause-zeros c state e = ap (λ n. (decoder_by n state).place) e

pub returns-clause-limits : goal.returns-clause-limits
returns-clause-limits c state e = ap (λ n. (decoder_by n state).place) e
