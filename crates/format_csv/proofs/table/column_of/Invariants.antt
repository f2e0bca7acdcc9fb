-- No column before this one has the name.
use Rattle.std.proofs.Common.{take}
use Rattle.std.specs.List.{All}
use Rattle.format_csv.specs.Table.{OtherName}
use Rattle.format_csv.proofs.table.column_of.Given as goal

abbrev pub invariant-loop-place : goal.invariant-loop-place
invariant-loop-place g l = All (OtherName l.name) (take l.place l.header)
