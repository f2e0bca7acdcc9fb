use Rattle.std.proofs.Common.{◌++◌, refl}
use Rattle.format_resp.specs.Resp.{line_end}
use Rattle.exported.proofs.resp.places.string_at.Goals as goal

pub returns-clause-text : goal.returns-clause-text
returns-clause-text c text rest (line, none, e) many = (
  record { is_kind = refl; is_number = refl; count = refl },
  c.first_of.ensures text (line_end ++ rest) (c.skip_line.ensures.behind line _ none e) many,
)
