use Rattle.streams.specs.Bytes.{bytes_reading}
use Rattle.stream_errors.specs.Form.{modal}
use Rattle.format_dns.proofs.HeaderRuns.{field_read}
use Rattle.format_dns.proofs.fields.long.Goals as goal

pub returns-in-Ok-clause-number : goal.returns-in-Ok-clause-number
returns-in-Ok-clause-number c = field_read 4 bytes_reading modal _ _ _ _ c.in-Ok.ensures.ran
