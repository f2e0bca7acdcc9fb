use Rattle.std.proofs.Common.{arith}
use Rattle.format_csv_records.proofs.Alone.{all_first}
use Rattle.format_csv_records.proofs.read.unquoted_len.Goals as goal

pub returns-clause-run : goal.returns-clause-run
returns-clause-run c = all_first _ _ _ _ (omega arith) (omega arith) c.loop-place.invariant
