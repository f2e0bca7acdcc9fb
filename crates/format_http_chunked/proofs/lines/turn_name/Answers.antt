use mathlib.Core.Bool.{false≢true}
use Rattle.std.proofs.Common.{refl}
use Rattle.format_http_chunked.proofs.Turns.{exists_iff, name_other, name_return, name_token}
use Rattle.format_http_chunked.proofs.Turns.{turn_of_equal_state}
use Rattle.format_http_chunked.specs.Bodies.{ChunksAfterSize}
use Rattle.format_http_chunked.specs.declared.places.Framing.TheVariants as framing
use Rattle.format_http_chunked.specs.declared.places.InLine.TheVariants as line
use Rattle.format_http_chunked.proofs.lines.turn_name.Goals as goal

pub returns-then-is_token : goal.returns-then-is_token
returns-then-is_token c size content trailers bytes =
    exists_iff (λ n. name_token _ _ bytes (c.if-is_token.ensures.0 refl))

pub returns-then-byte-eq13 : goal.returns-then-byte-eq13
returns-then-byte-eq13 c size content trailers bytes =
    exists_iff (λ n. name_return _ _ bytes (λ t. false≢true (c.if-is_token.ensures.1 t))
    c.if-byte-eq13.true)

pub returns : goal.returns
returns c size = turn_of_equal_state (framing.Line line.Name size)
    (framing.Line line.NameWhite size) size
    c.args.byte _ (λ content trailers bytes. exists_iff (λ n. name_other (ChunksAfterSize n content
    trailers size) _ bytes (λ t. false≢true (c.if-is_token.ensures.1 t)) c.if-byte-eq13.false))
    (c.turn_name_white.ensures size)
