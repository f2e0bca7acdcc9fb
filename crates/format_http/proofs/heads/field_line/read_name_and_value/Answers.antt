use Rattle.std.proofs.Common.{refl}
use Rattle.format_http.specs.Heads.Parts.{ValueStands}
use Rattle.format_http.proofs.HeadsLemmas.FieldRead.{name_unique}
use Rattle.winnow_grammar.specs.Steps.{first_err, second_err, steps_ok}
use Rattle.format_http.proofs.heads.field_line.read_name_and_value.Goals as goal

pub returns-in-Ok-read_value-clause-reads : goal.returns-in-Ok-read_value-clause-reads
returns-in-Ok-read_value-clause-reads c =
    steps_ok c.in-Ok.ensures.reads c.in-Ok-read_value.ensures.reads

pub returns-in-Err-read_value-clause-reads : goal.returns-in-Err-read_value-clause-reads
returns-in-Err-read_value-clause-reads c =
    second_err name_unique c.in-Ok.ensures.reads c.in-Err-read_value.ensures.reads

pub returns-in-Err-clause-reads : goal.returns-in-Err-clause-reads
returns-in-Err-clause-reads c = first_err ValueStands c.in-Err.ensures.reads

pub returns-in-Err-clause-spared : goal.returns-in-Err-clause-spared
returns-in-Err-clause-spared c = λ is. c.in-Err.ensures.spared refl

pub returns-in-Err-read_value-clause-spared : goal.returns-in-Err-read_value-clause-spared
returns-in-Err-read_value-clause-spared c = λ is. c.in-Err-read_value.ensures.spared refl
