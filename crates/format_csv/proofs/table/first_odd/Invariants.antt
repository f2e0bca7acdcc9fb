-- The records before this one have the width.
use Rattle.std.proofs.Common.{take}
use Rattle.std.specs.List.{All}
use Rattle.format_csv.specs.Table.{HasWidth}
use Rattle.format_csv.proofs.table.first_odd.Given as goal

abbrev pub invariant-loop-place : goal.invariant-loop-place
invariant-loop-place g l = All (HasWidth l.wants) (take l.place l.records)
