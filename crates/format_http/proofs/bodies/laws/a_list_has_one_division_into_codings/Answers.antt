use Rattle.format_http.proofs.BodiesLemmas.Divided.{list_divides, one_division}
use Rattle.format_http.proofs.bodies.laws.a_list_has_one_division_into_codings.Goals as goal

pub returns-clause-divides : goal.returns-clause-divides
returns-clause-divides c = list_divides

pub returns-clause-one : goal.returns-clause-one
returns-clause-one c = one_division
