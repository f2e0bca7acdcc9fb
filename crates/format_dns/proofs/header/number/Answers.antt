use Rattle.format_dns.proofs.HeaderRuns.{number_fails, number_left, number_must}
use Rattle.format_dns.proofs.HeaderRuns.{number_read}
use Rattle.format_dns.proofs.header.number.Goals as goal

pub returns-in-Ok-clause-number : goal.returns-in-Ok-clause-number
returns-in-Ok-clause-number g c =
    number_read g.I.Stream.reading _ _ _ _ c.in-Ok.ensures.ran

pub returns-in-Ok-clause-left : goal.returns-in-Ok-clause-left
returns-in-Ok-clause-left g c =
    number_left _ _ _ (number_read g.I.Stream.reading _ _ _ _ c.in-Ok.ensures.ran)

pub returns-in-Err-clause-accepts : goal.returns-in-Err-clause-accepts
returns-in-Err-clause-accepts g c enough =
    absurd (number_must g.I.Stream.reading _ _ _ _ enough c.in-Err.ensures.ran)

pub returns-in-Err-clause-fails : goal.returns-in-Err-clause-fails
returns-in-Err-clause-fails g c = number_fails g.I.Stream.reading _ _ _ _ c.in-Err.ensures.ran

pub returns-in-Ok-clause-ends : goal.returns-in-Ok-clause-ends
returns-in-Ok-clause-ends g c = c.in-Ok.ensures.ran.0

pub returns-in-Err-clause-ends : goal.returns-in-Err-clause-ends
returns-in-Err-clause-ends g c = c.in-Err.ensures.ran.0
