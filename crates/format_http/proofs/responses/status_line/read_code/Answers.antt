use Rattle.std.proofs.Common.{arith, refl, rules}
use Rattle.winnow_grammar.specs.Read.{err_as, ok_as}
use Rattle.format_http.proofs.HeadsLemmas.StatusRead.{code_back, code_there}
use Rattle.format_http.proofs.responses.status_line.read_code.Goals as goal

pub returns-in-Ok-clause-reads : goal.returns-in-Ok-clause-reads
returns-in-Ok-clause-reads c = ok_as c.in-Ok.ensures.reads (code_there _ _ (omega arith))

pub returns-in-Err-clause-reads : goal.returns-in-Err-clause-reads
returns-in-Err-clause-reads c = err_as c.in-Err.ensures.reads code_back

pub returns-in-Err-clause-spared : goal.returns-in-Err-clause-spared
returns-in-Err-clause-spared c = λ is. c.in-Err.ensures.spared (search rules) refl
