use Rattle.std.proofs.Common.{refl}
use Rattle.winnow_grammar.specs.Read.{err_as, ok_as}
use Rattle.format_http.specs.Heads.Parts.{VersionStands}
use Rattle.format_http.proofs.HeadsLemmas.RequestRead.{method_unique, request_back}
use Rattle.format_http.proofs.HeadsLemmas.RequestRead.{request_there}
use Rattle.winnow_grammar.specs.Steps.{first_err, second_err, steps_ok}
use Rattle.format_http.proofs.heads.request_line.read_request_line.Goals as goal

pub returns-in-Ok-read_version-clause-reads : goal.returns-in-Ok-read_version-clause-reads
returns-in-Ok-read_version-clause-reads c =
    ok_as (steps_ok c.in-Ok.ensures.reads c.in-Ok-read_version.ensures.reads)
    (request_there _ _ _ _)

pub returns-in-Err-read_version-clause-reads : goal.returns-in-Err-read_version-clause-reads
returns-in-Err-read_version-clause-reads c =
    err_as (second_err method_unique c.in-Ok.ensures.reads c.in-Err-read_version.ensures.reads)
    request_back

pub returns-in-Err-clause-reads : goal.returns-in-Err-clause-reads
returns-in-Err-clause-reads c = err_as (first_err VersionStands c.in-Err.ensures.reads) request_back

pub returns-in-Err-clause-spared : goal.returns-in-Err-clause-spared
returns-in-Err-clause-spared c = λ is. c.in-Err.ensures.spared refl

pub returns-in-Err-read_version-clause-spared : goal.returns-in-Err-read_version-clause-spared
returns-in-Err-read_version-clause-spared c = λ is. c.in-Err-read_version.ensures.spared refl
