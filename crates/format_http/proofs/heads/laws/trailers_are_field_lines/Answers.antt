use Rattle.format_http.proofs.HeadsLemmas.Trailers.{trailers_are}
use Rattle.format_http.proofs.heads.laws.trailers_are_field_lines.Goals as goal

pub returns : goal.returns
returns c = trailers_are
