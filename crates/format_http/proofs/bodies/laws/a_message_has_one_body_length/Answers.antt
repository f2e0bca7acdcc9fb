use Rattle.format_http.proofs.BodiesLemmas.Unique.{one_length}
use Rattle.format_http.proofs.bodies.laws.a_message_has_one_body_length.Goals as goal

pub returns : goal.returns
returns c = one_length
