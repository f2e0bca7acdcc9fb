use Rattle.std.proofs.Common.{[], refl}
use Rattle.format_http_chunked.proofs.Calls.{byte_taken}
use Rattle.format_http_chunked.proofs.Digits.{digit_goes}
use Rattle.format_http_chunked.proofs.Taking.{taken_in_turn, takes_nothing}
use Rattle.format_http_chunked.specs.declared.places.Framing.TheVariants as framing
use Rattle.format_http_chunked.specs.declared.places.Place.TheVariants as place
use Rattle.format_http_chunked.proofs.framing.pass_digits.Goals as goal

pub digits-init : goal.digits-init
digits-init c = takes_nothing (place.Framing (framing.Digits c.args.number)) _

pub digits-preserved : goal.digits-preserved
digits-preserved c = taken_in_turn (place.Framing (framing.Digits c.args.number)) (place.Framing
    (framing.Digits c.digits.size)) (place.Framing (framing.Digits c.in-Some-number_after.sum)) _
    _ _ [] [] c.digits.invariant (byte_taken _ (framing.Digits c.digits.size) (place.Framing
    (framing.Digits c.in-Some-number_after.sum)) _ _ _ refl c.in-Some.ensures.cases.0 (digit_goes
    _ _ _ _ c.in-Some-digit_of.ensures.some.1 c.in-Some-digit_of.ensures.some.0
    c.in-Some-number_after.ensures.some))
