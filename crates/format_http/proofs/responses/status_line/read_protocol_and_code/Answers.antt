use Rattle.std.proofs.Common.{refl}
use Rattle.winnow_grammar.specs.Steps.{first_err, second_err, steps_ok}
use Rattle.format_http.specs.Responses.Parts.{CodeStands}
use Rattle.format_http.proofs.HeadsLemmas.StatusRead.{protocol_unique}
use Rattle.format_http.proofs.responses.status_line.read_protocol_and_code.Goals as goal

pub returns-in-Ok-read_code-clause-reads : goal.returns-in-Ok-read_code-clause-reads
returns-in-Ok-read_code-clause-reads c =
    steps_ok c.in-Ok.ensures.reads c.in-Ok-read_code.ensures.reads

pub returns-in-Err-read_code-clause-reads : goal.returns-in-Err-read_code-clause-reads
returns-in-Err-read_code-clause-reads c =
    second_err protocol_unique c.in-Ok.ensures.reads c.in-Err-read_code.ensures.reads

pub returns-in-Err-clause-reads : goal.returns-in-Err-clause-reads
returns-in-Err-clause-reads c = first_err CodeStands c.in-Err.ensures.reads

pub returns-in-Err-clause-spared : goal.returns-in-Err-clause-spared
returns-in-Err-clause-spared c = λ is. c.in-Err.ensures.spared refl

pub returns-in-Err-read_code-clause-spared : goal.returns-in-Err-read_code-clause-spared
returns-in-Err-read_code-clause-spared c = λ is. c.in-Err-read_code.ensures.spared refl
