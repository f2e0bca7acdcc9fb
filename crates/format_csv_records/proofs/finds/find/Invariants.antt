-- Loop invariant: the extent is of the bytes held, which grew by the bytes read.
use Rattle.std.proofs.Common.{◌-◌, ◌^◌, length}
use Rattle.format_csv_records.specs.Extents.{IsExtentOf}
use Rattle.format_csv_records.specs.Finds.{IsBoundedCapacity}
use Rattle.format_csv_records.specs.Held.{GrewByReading}
use Rattle.format_csv_records.proofs.finds.find.Given as goal

abbrev pub invariant-loop-found : goal.invariant-loop-found
invariant-loop-found g l = record {
  of : IsExtentOf l.dialect l.extent l.buffer.bytes;
  grew : GrewByReading l.initial.buffer.bytes l.buffer.bytes (g.R.Read.remaining l.initial.source)
      (g.R.Read.remaining l.source);
  small : IsBoundedCapacity l.dialect l.initial.buffer.size l.buffer.size l.buffer.bytes;
}

-- each read brings a byte
abbrev pub decreases-loop-found : goal.decreases-loop-found
decreases-loop-found g l = 2 ^ 63 - length l.buffer.bytes
