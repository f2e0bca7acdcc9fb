use Rattle.std.proofs.Common.{refl}
use Rattle.format_http.specs.Heads.Bytes.{IsTokenByte}
use Rattle.format_http_places.specs.declared.state.HeadPlace.TheVariants as place
use Rattle.format_http_places.proofs.PlaceSteps.{fields_end, step_if, takes_name}
use Rattle.format_http_places.proofs.state.place_in_fields.Goals as goal

pub returns-then-byte-eq13 : goal.returns-then-byte-eq13
returns-then-byte-eq13 c = fields_end c.args.byte c.if-byte-eq13.true

pub returns-else-byte-eq13 : goal.returns-else-byte-eq13
returns-else-byte-eq13 c = step_if IsTokenByte {here = place.Fields} place.Name c.is_token.result
    c.then_some.result refl (takes_name c.if-byte-eq13.false) c.is_token.ensures
    c.then_some.ensures
