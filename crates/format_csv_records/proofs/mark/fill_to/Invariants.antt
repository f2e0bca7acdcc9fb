-- Loop invariant: the bytes held grew by the bytes read.
use Rattle.std.proofs.Common.{◌-◌, ◌^◌, length}
use Rattle.format_csv_records.specs.Held.{GrewByReading}
use Rattle.format_csv_records.proofs.mark.fill_to.Given as goal

abbrev pub invariant-loop-count : goal.invariant-loop-count
invariant-loop-count g l =
    GrewByReading l.initial.buffer.bytes l.buffer.bytes (g.R.Read.remaining l.initial.source)
    (g.R.Read.remaining l.source)

-- each read brings a byte
abbrev pub decreases-loop-count : goal.decreases-loop-count
decreases-loop-count g l = 2 ^ 63 - length l.buffer.bytes
