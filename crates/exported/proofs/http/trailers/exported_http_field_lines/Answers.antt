use Rattle.exported.proofs.Refusals.{no_fields_ever}
use Rattle.exported.proofs.http.trailers.exported_http_field_lines.Goals as goal

pub returns-in-Err-Invalid-clause-refused : goal.returns-in-Err-Invalid-clause-refused
returns-in-Err-Invalid-clause-refused c _ =
    no_fields_ever c.args.bytes.now c.in-Err-Invalid.invalid.place
    (rw c.in-Err-Invalid.field-0-is at c.in-Err-Invalid.ensures.read).0
