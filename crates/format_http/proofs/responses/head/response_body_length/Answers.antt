use Rattle.std.proofs.Common.{List, map, subst}
use Rattle.format_http.specs.Bodies.Framing.{IsBodyLength}
use Rattle.format_http.specs.Heads.Head.{pair}
use Rattle.format_http.specs.Responses.Head.{response_to}
use Rattle.format_http.specs.declared.heads.field_line.Field.{Field}
use Rattle.format_http.proofs.responses.head.response_body_length.Goals as goal

pub returns : goal.returns
returns g c =
    let line = c.args.head.now.line in
    let P : List Field → Type 0 =
    λ l. IsBodyLength (response_to c.args.method.now line.status) line.major line.minor
    (map pair l) c.body_length.result in
    subst P c.as_slice-fields.ensures.value c.body_length.ensures
