use Rattle.format_http.proofs.HeadsLemmas.Fields.{no_return}
use Rattle.format_http.proofs.heads.laws.no_return_stands_in_a_field.Goals as goal

pub returns : goal.returns
returns c = no_return
