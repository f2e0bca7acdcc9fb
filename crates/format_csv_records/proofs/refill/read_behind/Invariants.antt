-- Interrupted reads consume no bytes.
use Rattle.std.proofs.Common.{◌≡◌, ◌-◌, ◌^◌, [], take, length}
use Rattle.std.specs.Io.KnownBytes.{Consumes}
use Rattle.format_csv_records.proofs.refill.read_behind.Given as goal

abbrev pub invariant-loop-count : goal.invariant-loop-count
invariant-loop-count g l = record {
  kept : take l.filled l.bytes ≡ take l.filled l.initial.bytes;
  same_length : length l.bytes ≡ length l.initial.bytes;
  none : Consumes (g.R.Read.remaining l.initial.source) (g.R.Read.remaining l.source) [];
}

abbrev pub decreases-loop-count : goal.decreases-loop-count
decreases-loop-count g l = 2 ^ 64 - l.tries
