use mathlib.Core.Bool.{false≢true}
use Rattle.std.proofs.Common.{refl}
use Rattle.format_http.proofs.HeadsLemmas.UriSteps.{address_in, address_out}
use Rattle.format_http.proofs.heads.uris.step_address.Goals as goal

pub returns-then-is_address : goal.returns-then-is_address
returns-then-is_address c bytes =
    address_in c.args.byte bytes c.args.of (c.if-is_address.ensures.0 refl)

pub returns-then-byte-eq93 : goal.returns-then-byte-eq93
returns-then-byte-eq93 c bytes = address_out c.args.byte bytes c.args.of
    (λ t. false≢true (c.if-is_address.ensures.1 t)) c.if-byte-eq93.true
