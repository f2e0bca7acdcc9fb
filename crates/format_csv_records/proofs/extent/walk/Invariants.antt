use Rattle.std.proofs.Common.{length}
use Rattle.format_csv_records.proofs.Extents.{Walking}
use Rattle.format_csv_records.proofs.extent.walk.Given as goal

abbrev pub invariant-runs : goal.invariant-runs
invariant-runs l = Walking l.dialect l.fn.from l.at l.fresh l.rest

abbrev pub decreases-runs : goal.decreases-runs
decreases-runs l = length l.rest
