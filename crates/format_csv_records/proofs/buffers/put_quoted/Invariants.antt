use Rattle.std.proofs.Common.{length}
use Rattle.format_csv_records.proofs.Placing.{QuotedSoFar}
use Rattle.format_csv_records.proofs.buffers.put_quoted.Given as goal

abbrev pub invariant-runs : goal.invariant-runs
invariant-runs l = QuotedSoFar l.quote l.bytes l.rest l.at l.fn.text l.text l.end

abbrev pub decreases-runs : goal.decreases-runs
decreases-runs l = length l.rest
