use Rattle.std.proofs.Common.{length, []}
use Rattle.format_http_chunked.specs.Steps.{IsTaken}
use Rattle.format_http_chunked.specs.declared.places.Framing.TheVariants as framing
use Rattle.format_http_chunked.specs.declared.places.Place.TheVariants as place
use Rattle.format_http_chunked.proofs.framing.pass_digits.Given as goal

abbrev pub invariant-digits : goal.invariant-digits
invariant-digits l =
    IsTaken (place.Framing (framing.Digits l.number)) (place.Framing (framing.Digits l.size))
    l.bytes l.rest [] []

abbrev pub decreases-digits : goal.decreases-digits
decreases-digits l = length l.rest
