use Rattle.std.proofs.Common.{[], subst, sym}
use Rattle.format_http.proofs.BodiesLemmas.Steps.{quotes_not_end}
use Rattle.format_http.specs.Bodies.Dues.{IsDue}
use Rattle.format_http.specs.declared.bodies.coding.Place.{Place}
use Rattle.streams.specs.Equal.{true_is_false}
use Rattle.format_http.proofs.bodies.coding.may_end.Goals as goal

pub returns-in-Quotes : goal.returns-in-Quotes
returns-in-Quotes c =
    let P : Place → Type 0 = λ at. IsDue at [] in
    (λ t. true_is_false (sym t), λ x. absurd (quotes_not_end (subst P c.in-Quotes.is x)))
