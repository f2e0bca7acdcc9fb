use Rattle.format_http.proofs.OneLemmas.StatusLines.{response_one}
use Rattle.format_http.proofs.heads.laws.bytes_begin_with_one_response_head_at_most.Goals as goal

pub returns : goal.returns
returns c = response_one
