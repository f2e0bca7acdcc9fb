use Rattle.std.proofs.Common.{refl}
use Rattle.std.proofs.lemmas.Result.{IfOk-weaker}
use Rattle.format_http.proofs.heads.field_line.read_field_line.Goals as goal

pub returns-clause-colon : goal.returns-clause-colon
returns-clause-colon c = IfOk-weaker c.read_line.result _ _
    (λ field is front more. c.no_white_space_stands_before_a_colon.ensures _ _ _ _ front more is)
    (c.read_line.ensures.reads.stands refl)

pub returns-clause-returns : goal.returns-clause-returns
returns-clause-returns c = IfOk-weaker c.read_line.result _ _
    (λ field is. c.no_return_stands_in_a_field.ensures _ _ _ _ is)
    (c.read_line.ensures.reads.stands refl)
