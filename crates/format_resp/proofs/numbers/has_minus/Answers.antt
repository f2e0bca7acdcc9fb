use Rattle.std.proofs.Common.{refl}
use Rattle.std.proofs.lemmas.List.{nil_from_length}
use Rattle.format_resp.proofs.numbers.has_minus.Goals as goal

pub returns-in_default : goal.returns-in_default
returns-in_default c = rw (nil_from_length _ c.in_default.ensures.cases) refl

pub returns : goal.returns
returns c = rw c.in-Some.ensures.cases.0 refl
