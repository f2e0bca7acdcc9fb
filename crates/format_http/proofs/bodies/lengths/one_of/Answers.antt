use Rattle.std.proofs.Common.{refl, subst, sym}
use Rattle.std.specs.Borrow.{Bor}
use Rattle.std.specs.Prelude.{List, Option, ℕ}
use Rattle.format_http.specs.Bodies.Lists.{IsThe}
use Rattle.streams.specs.Equal.{true_is_false}
use Rattle.format_http.proofs.bodies.lengths.one_of.Goals as goal

pub returns-else-is_same-clause-many : goal.returns-else-is_same-clause-many
returns-else-is_same-clause-many c =
    let text = c.in-Some.text.now in
    let P : Option (Bor (List ℕ)) → Type 0 = λ o. IsThe o text in (
      refl,
      text,
      subst P (sym c.in-Some.is) refl,
      λ e. true_is_false (sym (c.if-is_same.ensures.1 e)),
    )
