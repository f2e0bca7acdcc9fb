use Rattle.readers.proofs.GapLemmas.{gap_read, reads_gap}
use Rattle.readers.proofs.ini.parts.gap.Goals as goal

pub returns : goal.returns
returns g c = (
  c.parse_next.ensures.ran.0,
  gap_read (reads_gap (λ f x r y h met. met)) _ _ _ c.repeat.ensures.occurrences
      c.parse_next.ensures.ran.3,
)
