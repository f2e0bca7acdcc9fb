use Rattle.exported.proofs.CsvWrite.{last_empty}
use Rattle.exported.proofs.csv.write.put_last.Goals as goal

pub returns-then-is_empty_record : goal.returns-then-is_empty_record
returns-then-is_empty_record c = (
  _,
  last_empty c.args.dialect _ _ c.if-is_empty_record.ensures,
  c.put_quoted.ensures,
)
