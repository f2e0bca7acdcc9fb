use Rattle.std.proofs.Common.{◌≡◌, [], length}
use Rattle.format_csv_records.proofs.Whole.{SoFar}
use Rattle.format_csv_records.proofs.read.read_fields.Given as goal

abbrev pub invariant-fields : goal.invariant-fields
invariant-fields g l = record {
  read : SoFar l.dialect l.bytes l.rest (g.S.FieldSink.fields l.sink);
  none : g.S.FieldSink.begun l.sink ≡ [];
}

abbrev pub decreases-fields : goal.decreases-fields
decreases-fields g l = length l.rest
