use Rattle.std.proofs.Common.{refl, arith}
use Rattle.format_csv_records.specs.Records.{AreAscending, cut}
use Rattle.format_csv_records.proofs.record.ByteRecord.clear.Goals as goal

pub returns-clause-fields : goal.returns-clause-fields
unfolding cut
returns-clause-fields g c = rw c.clear-2.ensures.items refl

pub invariant_of-self : goal.invariant_of-self
unfolding AreAscending
invariant_of-self g c = rw c.clear-2.ensures.items (omega arith)
