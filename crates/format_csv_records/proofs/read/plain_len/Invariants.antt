use Rattle.std.proofs.Common.{◌-◌, ◌≤◌, length, take}
use Rattle.std.specs.List.{All}
use Rattle.format_csv_records.specs.Dialects.{IsPlain}
use Rattle.format_csv_records.proofs.read.plain_len.Given as goal

abbrev pub invariant-lanes : goal.invariant-lanes
invariant-lanes l = record {
  within : l.at ≤ length l.bytes;
  all : All (IsPlain l.dialect) (take l.at l.bytes);
}

abbrev pub decreases-lanes : goal.decreases-lanes
decreases-lanes l = length l.bytes - l.at
