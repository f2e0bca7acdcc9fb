use Rattle.format_csv_records.proofs.One.{fields_unique}
use Rattle.format_csv_records.proofs.laws.bytes_begin_with_one_record.Goals as goal

pub returns : goal.returns
returns c = λ bytes fields others rest left it other.
    fields_unique c.args.dialect c.args.dialect.apart fields others bytes rest left it.1 other.1
