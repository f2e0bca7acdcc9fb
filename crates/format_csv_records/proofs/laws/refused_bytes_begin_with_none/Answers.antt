use Rattle.format_csv_records.proofs.One.{refused_is_no_record}
use Rattle.format_csv_records.proofs.laws.refused_bytes_begin_with_none.Goals as goal

pub returns : goal.returns
returns c = λ bytes fault fields rest no it.
    refused_is_no_record c.args.dialect bytes fault fields rest no it
