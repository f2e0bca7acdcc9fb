use Rattle.std.proofs.Common.{refl, rules}
use Rattle.winnow_grammar.specs.Read.{err_as, ok_as}
use Rattle.format_http.proofs.HeadsLemmas.RequestRead.{digit_back, digit_least, digit_there}
use Rattle.format_http.proofs.heads.request_line.read_digit.Goals as goal

pub overflow_sub-result : goal.overflow_sub-result
overflow_sub-result c = digit_least _ _ _ _ (c.in-Ok.ensures.reads.stands refl)

pub returns-in-Ok-clause-reads : goal.returns-in-Ok-clause-reads
returns-in-Ok-clause-reads c = ok_as c.in-Ok.ensures.reads (digit_there _ _)

pub returns-in-Err-clause-reads : goal.returns-in-Err-clause-reads
returns-in-Err-clause-reads c = err_as c.in-Err.ensures.reads (digit_back _)

pub returns-in-Err-clause-spared : goal.returns-in-Err-clause-spared
returns-in-Err-clause-spared c = λ is. c.in-Err.ensures.spared (search rules) refl
