use Rattle.std.proofs.Common.{refl, arith}
use Rattle.format_csv_records.specs.Records.{AreAscending, cut}
use Rattle.format_csv_records.proofs.record.ByteRecord.new.Goals as goal

pub returns-clause-fields : goal.returns-clause-fields
unfolding cut
returns-clause-fields g c = rw c.new-ends.ensures.items refl

pub invariant_of-result : goal.invariant_of-result
unfolding AreAscending
invariant_of-result g c = rw c.new-ends.ensures.items (omega arith)
