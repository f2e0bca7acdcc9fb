use mathlib.Core.Bool.{false≢true}
use Rattle.std.proofs.Common.{refl}
use Rattle.format_http.proofs.BodiesLemmas.Steps.{step_by, token_token}
use Rattle.format_http.specs.Bodies.Dues.{Others}
use Rattle.format_http.specs.Heads.Bytes.{IsTokenByte}
use Rattle.format_http.specs.declared.bodies.coding.Place.TheVariants as place
use Rattle.format_http_chunked.proofs.Turns.{many_stops_at_byte}
use Rattle.format_http.proofs.bodies.coding.step_token.Goals as goal

pub returns-then-is_token : goal.returns-then-is_token
returns-then-is_token c bytes = token_token _ bytes (c.if-is_token.ensures.0 refl)

pub returns : goal.returns
returns c = step_by place.Token place.Closed c.args.byte _
    (λ bytes. many_stops_at_byte IsTokenByte Others
    c.args.byte bytes (λ t. false≢true (c.if-is_token.ensures.1 t))) c.step_closed.ensures
