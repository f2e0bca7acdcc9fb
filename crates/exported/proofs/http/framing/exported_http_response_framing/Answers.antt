use Rattle.std.proofs.Common.{List, map, subst, take}
use Rattle.std.specs.Prelude.{IsTrue, ◌↔◌}
use Rattle.format_http.specs.Bodies.Framing.{IsBodyLength}
use Rattle.format_http.specs.Responses.Head.{response_to}
use Rattle.format_http_places.specs.Slices.{pair_at}
use Rattle.format_http_places.specs.declared.places.Field.{Field}
use Rattle.exported.proofs.HttpFraming.{frames_response}
use Rattle.exported.specs.Http.{response_of}
use Rattle.exported.specs.HttpFraming.{Remains}
use Rattle.exported.proofs.http.framing.exported_http_response_framing.Goals as goal

pub returns-clause-any : goal.returns-clause-any
returns-clause-any c =
    let bytes = c.args.bytes.now in
    let head = c.args.head.now in
    let found = c.body_length-found.result in
    let P : List Field → Type 0 =
    λ l. IsBodyLength (response_to c.args.method.now head.status) head.major head.minor
    (map (pair_at bytes) l) found in
    let R : List Field → Type 0 =
    λ l. IsTrue c.remains.result
    ↔ Remains head.major head.minor (map (pair_at bytes) l) found in
    record {
      answer = found;
      is_answer = subst P c.first-fields.ensures c.body_length-found.ensures;
      writes = c.response_of-code.ensures;
      persists = subst R c.first-fields.ensures c.remains.ensures;
    }

pub returns-clause-head : goal.returns-clause-head
returns-clause-head c shows =
    let bytes = c.args.bytes.now in
    let head = c.args.head.now in
    let places = take head.fields c.args.fields.now in
    frames_response c.args.method.now bytes head places _ _ shows
    (c.slices_are_those_of_the_head.ensures.response bytes (response_of head) places shows)
    (returns-clause-any c)
