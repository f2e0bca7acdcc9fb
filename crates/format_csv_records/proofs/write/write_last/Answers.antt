use Rattle.format_csv_records.proofs.Writing.{extends_trans}
use Rattle.format_csv_records.proofs.write.write_last.Goals as goal

pub returns-then-is_empty-clause-kept : goal.returns-then-is_empty-clause-kept
returns-then-is_empty-clause-kept g c =
    extends_trans _ _ _ c.in_ok-put.ensures.kept c.put-then-is_empty.ensures.kept
