use mathlib.Core.Bool.{false≢true}
use Rattle.std.proofs.Common.{refl}
use Rattle.format_http.specs.declared.heads.uris.Place.TheVariants as place
use Rattle.format_http.proofs.HeadsLemmas.UriSteps.{name_in, name_out, name_percent, step_by}
use Rattle.format_http.proofs.heads.uris.step_name.Goals as goal

pub returns-then-is_name : goal.returns-then-is_name
returns-then-is_name c bytes = name_in c.args.byte bytes c.args.of (c.if-is_name.ensures.0 refl)

pub returns-then-byte-eq37 : goal.returns-then-byte-eq37
returns-then-byte-eq37 c bytes = name_percent c.args.byte bytes c.args.of
    (λ t. false≢true (c.if-is_name.ensures.1 t)) c.if-byte-eq37.true

pub returns : goal.returns
returns c = step_by c.args.of place.Name place.AfterHost c.args.byte _ (λ bytes. name_out
    c.args.byte bytes c.args.of (λ t. false≢true (c.if-is_name.ensures.1 t))
    c.if-byte-eq37.false) c.step_after_host.ensures
