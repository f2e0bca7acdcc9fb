use Rattle.format_csv_records.proofs.buffers.put_record.Goals as goal

pub returns-in-Some : goal.returns-in-Some
returns-in-Some g c = rw c.in-Some.ensures at c.put_fields.ensures
