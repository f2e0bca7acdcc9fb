use Rattle.std.proofs.Common.{[], subst, sym}
use Rattle.std.specs.Prelude.{IsTrue, ◌↔◌}
use Rattle.format_http.proofs.HeadsLemmas.UriSteps.{name_end, start_end}
use Rattle.format_http.specs.Heads.UriDues.{IsDue}
use Rattle.format_http.specs.declared.heads.uris.Place.{Place}
use Rattle.format_http_chunked.proofs.Turns.{iff_trans}
use Rattle.format_http.proofs.heads.uris.may_end.Goals as goal

pub returns-in-Start : goal.returns-in-Start
returns-in-Start c =
    let P : Place → Type 0 = λ at. IsTrue c.may_lack_port.result ↔ IsDue c.args.of at [] in
    subst P (sym c.in-Start.is) (iff_trans c.may_lack_port.ensures (start_end c.args.of))

pub returns-in-Name : goal.returns-in-Name
returns-in-Name c =
    let P : Place → Type 0 = λ at. IsTrue c.may_lack_port-in-Name.result ↔ IsDue c.args.of at [] in
    subst P (sym c.in-Name.is) (iff_trans c.may_lack_port-in-Name.ensures (name_end c.args.of))
