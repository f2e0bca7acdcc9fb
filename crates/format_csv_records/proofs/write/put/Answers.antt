use Rattle.format_csv_records.proofs.Writing.{extends_refl}
use Rattle.format_csv_records.proofs.write.put.Goals as goal

pub returns-in-Ok-clause-kept : goal.returns-in-Ok-clause-kept
returns-in-Ok-clause-kept g c = (_, c.in-Ok.ensures.items)

pub returns-in-Err-clause-kept : goal.returns-in-Err-clause-kept
returns-in-Err-clause-kept g c = extends_refl _ _ c.in-Err.ensures.items
