use Rattle.std.proofs.Common.{refl, sym}
use Rattle.exported.proofs.Replies.{line_shown}
use Rattle.exported.proofs.resp.places.line_at.Goals as goal

pub returns-clause-text : goal.returns-clause-text
returns-clause-text c input text rest is many = (
  record { is_kind = refl; is_number = refl; count = refl },
  line_shown input text rest _ is refl (sym many),
)
