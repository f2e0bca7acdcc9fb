use Rattle.format_http.specs.declared.heads.uris.Place.TheVariants as place
use Rattle.format_http.proofs.HeadsLemmas.UriSteps.{start_bracket, start_name, step_by}
use Rattle.format_http.proofs.heads.uris.step_start.Goals as goal

pub returns-then-byte-eq91 : goal.returns-then-byte-eq91
returns-then-byte-eq91 c bytes = start_bracket c.args.byte bytes c.args.of c.if-byte-eq91.true

pub returns : goal.returns
returns c = step_by c.args.of place.Start place.Name c.args.byte _
    (λ bytes. start_name c.args.byte bytes c.args.of c.if-byte-eq91.false) c.step_name.ensures
