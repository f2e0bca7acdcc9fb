use Rattle.winnow.specs.LiteralDefinition.{LiteralDoes}
use Rattle.winnow.specs.Premises.Decided.{did_stays, literal_stays}
use Rattle.example_callers.proofs.places.signs_have_one_span.Goals as goal

pub returns : goal.returns
returns g c =
    c.spans_are_stateless.ensures.span 43
    (c.deterministic_parts_are_stateless.ensures 43 tt
    (did_stays g.I.Stream.reading (LiteralDoes g.I.Stream.reading g.I.Compare.spells (λ s _. s))
    g.E.HasKind.form 43
    (literal_stays g.I.Stream.reading g.I.Compare.spells (λ s _. s) 43)))
