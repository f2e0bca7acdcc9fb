use Rattle.format_http.proofs.HeadsLemmas.Parts.{err_at}
use Rattle.format_http.proofs.heads.head.read_head.Goals as goal

pub returns-in-Err-clause-head : goal.returns-in-Err-clause-head
returns-in-Err-clause-head g c = err_at c.in-Err.ensures
