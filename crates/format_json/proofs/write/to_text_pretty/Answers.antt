use Rattle.format_json.proofs.ErrorResults.{unwritten_memory}
use Rattle.format_json.proofs.write.to_text_pretty.Goals as goal

pub returns-in-Err-clause-none : goal.returns-in-Err-clause-none
returns-in-Err-clause-none g c =
    unwritten_memory c.in-Err.error c.of.result c.of.ensures c.in-Err.ensures.none

pub returns-in-Err-clause-refused : goal.returns-in-Err-clause-refused
returns-in-Err-clause-refused g c =
    (c.in-Err.error, c.of.ensures, c.in-Err.ensures.refused)
