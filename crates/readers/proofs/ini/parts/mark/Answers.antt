use Rattle.std.proofs.Common.{ap}
use Rattle.readers.proofs.MarkLemmas.{mark_read}
use Rattle.readers.proofs.ini.parts.mark.Goals as goal

pub returns : goal.returns
returns c =
    mark_read _ _ _ _ _ (ap (λ p. p.1) c.void.ensures) c.parse_next.ensures.ran.0
    c.parse_next.ensures.ran.3
