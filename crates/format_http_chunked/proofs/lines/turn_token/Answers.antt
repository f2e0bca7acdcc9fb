use mathlib.Core.Bool.{false≢true}
use Rattle.std.proofs.Common.{refl}
use Rattle.format_http_chunked.proofs.Turns.{exists_iff, many_stops_at_byte, token_token}
use Rattle.format_http_chunked.proofs.Turns.{turn_of_equal_state}
use Rattle.format_http_chunked.specs.Bodies.{ChunksAfterSize, Extended, IsTokenByte}
use Rattle.format_http_chunked.specs.declared.places.Framing.TheVariants as framing
use Rattle.format_http_chunked.specs.declared.places.InLine.TheVariants as line
use Rattle.format_http_chunked.proofs.lines.turn_token.Goals as goal

pub returns-then-is_token : goal.returns-then-is_token
returns-then-is_token c size content trailers bytes =
    exists_iff (λ n. token_token _ _ bytes (c.if-is_token.ensures.0 refl))

pub returns : goal.returns
returns c size = turn_of_equal_state (framing.Line line.Token size)
    (framing.Line line.AfterSize size) size
    c.args.byte _ (λ content trailers bytes. exists_iff
    (λ n. many_stops_at_byte IsTokenByte (Extended
    (ChunksAfterSize n content trailers size)) c.args.byte bytes (λ t. false≢true
    (c.if-is_token.ensures.1 t)))) (c.turn_behind.ensures size)
