use Rattle.format_http.specs.Heads.UriDues.{AfterHost}
use Rattle.format_http.specs.Heads.Uris.{Host}
use Rattle.format_http.specs.declared.heads.uris.Place.TheVariants as place
use Rattle.format_http.proofs.HeadsLemmas.UriSteps.{slash_path, slash_slash, step_by}
use Rattle.format_http.proofs.heads.uris.step_slash.Goals as goal

pub returns-then-byte-eq47 : goal.returns-then-byte-eq47
returns-then-byte-eq47 c bytes =
    slash_slash c.args.byte bytes (Host (AfterHost c.args.of)) c.if-byte-eq47.true

pub returns : goal.returns
returns c = step_by c.args.of place.Slash place.Path c.args.byte _
    (λ bytes. slash_path c.args.byte bytes (Host (AfterHost c.args.of)) c.if-byte-eq47.false)
    c.step_path.ensures
