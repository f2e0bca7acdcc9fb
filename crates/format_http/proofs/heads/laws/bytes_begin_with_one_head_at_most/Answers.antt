use Rattle.format_http.proofs.OneLemmas.Heads.{head_one}
use Rattle.format_http.proofs.heads.laws.bytes_begin_with_one_head_at_most.Goals as goal

pub returns : goal.returns
returns c = head_one
