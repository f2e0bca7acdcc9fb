use Rattle.std.proofs.Common.{List, map, subst, take}
use Rattle.std.specs.Prelude.{IsTrue, ◌↔◌}
use Rattle.format_http.specs.Bodies.Refusals.{IsFraming}
use Rattle.format_http.specs.Heads.Head.{Request, request}
use Rattle.format_http_places.specs.Slices.{pair_at}
use Rattle.format_http_places.specs.declared.places.Field.{Field}
use Rattle.exported.proofs.HttpFraming.{frames_head, rejected_of}
use Rattle.exported.specs.Http.{places_of}
use Rattle.exported.specs.HttpFraming.{IsRejectedAt, Remains, fields_at}
use Rattle.exported.proofs.http.framing.exported_http_request_framing.Goals as goal

pub returns-clause-any : goal.returns-clause-any
returns-clause-any c =
    let bytes = c.args.bytes.now in
    let head = c.args.head.now in
    let found = c.request_framing-found.result in
    let P : Request → Type 0 =
    λ line. IsFraming line (fields_at bytes head.fields c.args.fields.now) found in
    let Q : List Field → Type 0 =
    λ l. IsFraming (request c.request_line.result) (map (pair_at bytes) l) found in
    let R : List Field → Type 0 =
    λ l. IsTrue c.remains.result
    ↔ Remains head.major head.minor (map (pair_at bytes) l) found in
    record {
      framing = found;
      is_framing = subst P c.request_line.ensures
          (subst Q c.first-fields.ensures c.request_framing-found.ensures);
      writes = c.request_of-code.ensures;
      persists = subst R c.first-fields.ensures c.remains.ensures;
    }

pub returns-clause-head : goal.returns-clause-head
returns-clause-head c shows =
    let bytes = c.args.bytes.now in
    let head = c.args.head.now in
    let places = take head.fields c.args.fields.now in
    let law = c.slices_are_those_of_the_head.ensures.request bytes (places_of head) places shows in
    frames_head bytes head places _ _ shows law.0 law.1 law.2 (returns-clause-any c)

pub returns-clause-place : goal.returns-clause-place
returns-clause-place c =
    let bytes = c.args.bytes.now in
    let target = c.args.head.now.target in
    let body = c.request_of-code.result.1 in
    let P : List Field → Type 0 =
    λ l. IsRejectedAt bytes l target body.error c.rejected_at.result in
    subst P c.first-fields.ensures
    (rejected_of bytes c.first-fields.result.now target c.rejected_at.result
    (request c.request_line.result) c.request_framing-found.result c.request_of-code.result.0 body
    c.request_framing-found.ensures c.request_of-code.ensures c.rejected_at.ensures)
