use Rattle.std.proofs.Common.{length}
use Rattle.format_csv_records.proofs.Placing.{FieldsSoFar}
use Rattle.format_csv_records.proofs.buffers.put_fields.Given as goal

abbrev pub invariant-fields : goal.invariant-fields
invariant-fields g l = FieldsSoFar g.P.FieldPlace.made l.dialect l.bytes l.rest l.fn.text l.text
    l.fn.places l.places l.end l.fields

abbrev pub decreases-fields : goal.decreases-fields
decreases-fields g l = length l.rest
