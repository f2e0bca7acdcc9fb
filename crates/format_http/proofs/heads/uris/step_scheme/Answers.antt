use mathlib.Core.Bool.{false≢true}
use Rattle.std.proofs.Common.{refl}
use Rattle.format_http.specs.Heads.UriDues.{AfterHost}
use Rattle.format_http.specs.Heads.Uris.{Host}
use Rattle.format_http.proofs.HeadsLemmas.UriSteps.{scheme_in, scheme_out}
use Rattle.format_http.proofs.heads.uris.step_scheme.Goals as goal

pub returns-then-is_scheme : goal.returns-then-is_scheme
returns-then-is_scheme c bytes =
    scheme_in c.args.byte bytes (Host (AfterHost c.args.of)) (c.if-is_scheme.ensures.0 refl)

pub returns-then-byte-eq58 : goal.returns-then-byte-eq58
returns-then-byte-eq58 c bytes = scheme_out c.args.byte bytes (Host (AfterHost c.args.of))
    (λ t. false≢true (c.if-is_scheme.ensures.1 t)) c.if-byte-eq58.true
