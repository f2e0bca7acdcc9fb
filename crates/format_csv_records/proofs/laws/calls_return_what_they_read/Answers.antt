use Rattle.format_csv_records.proofs.Sequence.{in_sequence}
use Rattle.format_csv_records.proofs.laws.calls_return_what_they_read.Goals as goal

pub returns : goal.returns
returns c = in_sequence c.args.dialect
