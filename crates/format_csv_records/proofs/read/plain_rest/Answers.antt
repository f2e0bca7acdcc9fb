use Rattle.std.proofs.Common.{arith}
use Rattle.format_csv_records.proofs.Alone.{all_first}
use Rattle.format_csv_records.proofs.read.plain_rest.Goals as goal

pub returns : goal.returns
returns c = all_first _ _ _ _ (omega arith) (omega arith) c.loop-place.invariant
