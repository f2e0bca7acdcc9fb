use Rattle.std.proofs.Common.{List, inr, map, refl, subst}
use Rattle.format_http.specs.Bodies.Refusals.{IsFraming}
use Rattle.format_http.specs.Heads.Head.{pair, request}
use Rattle.format_http.specs.declared.heads.field_line.Field.{Field}
use Rattle.exported.proofs.http.body.exported_http_request_body.Goals as goal

pub returns-in-Ok-clause-body : goal.returns-in-Ok-clause-body
returns-in-Ok-clause-body c _ =
    let found = c.request_framing-framing.result in
    let P : List Field → Type 0 =
    λ l. IsFraming (request c.in-Ok.head.line) (map pair l) found in
    record {
      head = c.in-Ok.head;
      rest = c.read_head.new.input.now;
      stands = c.in-Ok.ensures.head.stands refl;
      framing = found;
      is_framing = subst P c.as_slice.ensures.value c.request_framing-framing.ensures;
      writes = c.request_of-code.ensures;
    }

pub returns-in-Ok-clause-refused : goal.returns-in-Ok-clause-refused
returns-in-Ok-clause-refused c _ =
    let found = c.request_framing-framing.result in
    let P : List Field → Type 0 =
    λ l. IsFraming (request c.in-Ok.head.line) (map pair l) found in
    inr (record {
      head = c.in-Ok.head;
      rest = c.read_head.new.input.now;
      stands = c.in-Ok.ensures.head.stands refl;
      framing = found;
      is_framing = subst P c.as_slice.ensures.value c.request_framing-framing.ensures;
      writes = c.request_of-code.ensures;
    })
