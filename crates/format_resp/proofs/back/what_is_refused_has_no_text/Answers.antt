use Rattle.format_resp.proofs.Refusals.{refused_textless}
use Rattle.format_resp.proofs.back.what_is_refused_has_no_text.Goals as goal

pub returns : goal.returns
returns g c = refused_textless
