use Rattle.std.proofs.Common.{take}
use Rattle.std.specs.List.{All}
use Rattle.format_csv_records.specs.Dialects.{IsPlain}
use Rattle.format_csv_records.proofs.read.plain_rest.Given as goal

abbrev pub invariant-loop-place : goal.invariant-loop-place
invariant-loop-place l = All (IsPlain l.dialect) (take l.place l.bytes)
