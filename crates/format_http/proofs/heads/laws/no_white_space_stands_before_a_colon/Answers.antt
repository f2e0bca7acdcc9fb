use Rattle.format_http.proofs.HeadsLemmas.Fields.{no_white}
use Rattle.format_http.proofs.heads.laws.no_white_space_stands_before_a_colon.Goals as goal

pub returns : goal.returns
returns c = no_white
