use Rattle.format_http.proofs.BodiesLemmas.Declared.{none_declared, one_declared}
use Rattle.format_http.proofs.bodies.lengths.declared_length.Goals as goal

pub returns-in-Ok-Some : goal.returns-in-Ok-Some
returns-in-Ok-Some g c =
    one_declared _ c.in-Ok-Some.text _ (rw c.in-Ok-Some.field-0-is at c.in-Ok-Some.ensures.one)
    c.length_of.ensures

pub returns-in-Ok-None : goal.returns-in-Ok-None
returns-in-Ok-None g c =
    none_declared _ (rw c.in-Ok-None.field-0-is at c.in-Ok-None.ensures.one)
