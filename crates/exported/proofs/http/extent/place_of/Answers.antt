use Rattle.std.proofs.Common.{◌≤◌, arith, sym}
use Rattle.std.proofs.lemmas.List.{get_or_past}
use Rattle.format_http_places.specs.declared.state.HeadPlace.TheVariants as place
use Rattle.exported.specs.HttpExtent.{numbered}
use Rattle.exported.proofs.http.extent.place_of.Goals as goal

pub returns-in_default : goal.returns-in_default
returns-in_default c =
    let late : 32 ≤ c.args.number = omega arith in
    sym (get_or_past (numbered c.args.kind) c.args.number place.Done late)
