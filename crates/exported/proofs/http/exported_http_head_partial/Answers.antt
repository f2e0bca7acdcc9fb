use Rattle.exported.proofs.Refusals.{refused_never}
use Rattle.exported.proofs.http.exported_http_head_partial.Goals as goal

pub returns-in-Err-Invalid-clause-refused : goal.returns-in-Err-Invalid-clause-refused
returns-in-Err-Invalid-clause-refused c _ =
    refused_never c.args.bytes.now c.in-Err-Invalid.invalid.place
    (rw c.in-Err-Invalid.field-0-is at c.in-Err-Invalid.ensures.read).0
