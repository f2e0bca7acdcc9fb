use Rattle.format_csv_records.proofs.One.{rest_less}
use Rattle.format_csv_records.proofs.Telling.{held_taken, read_split}
use Rattle.format_csv_records.proofs.taken.read_held.Goals as goal

pub overflow_sub-count : goal.overflow_sub-count
overflow_sub-count g c = rest_less _ _ (read_split _ _ _ _ _ c.read_record_into-told.ensures.reads)

pub returns-clause-told : goal.returns-clause-told
returns-clause-told g c =
    held_taken _ _ _ _ _ _ _ c.held-held.ensures c.read_record_into-told.ensures.reads
    c.consume.ensures.bytes
