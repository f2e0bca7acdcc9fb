use Rattle.std.proofs.Common.{ap, arith, length}
use Rattle.format_csv_records.proofs.taken.take_record.Goals as goal

pub overflow_sub-count : goal.overflow_sub-count
overflow_sub-count g c =
    omega (
      arith,
      c.in-Ok.ensures.less,
      ap (λ l. length l) c.held.ensures,
      ap (λ l. length l) c.held-in-Ok.ensures,
    )

pub returns-in-Err-OutOfMemory-clause-moved : goal.returns-in-Err-OutOfMemory-clause-moved
returns-in-Err-OutOfMemory-clause-moved g c =
    omega (arith, ap (λ l. length l) c.in-Err-OutOfMemory.ensures.told.1)
