use Rattle.std.proofs.Common.{inl, inr, refl, subst, sym}
use Rattle.std.specs.Borrow.{Bor}
use Rattle.std.specs.Prelude.{List, Option, ℕ}
use Rattle.format_http.proofs.BodiesLemmas.Lengths.{part_has}
use Rattle.format_http.specs.Bodies.Lists.{HasElement, parts_in}
use Rattle.format_http.proofs.bodies.lengths.one_element.Goals as goal

pub returns-in-Err-clause-many : goal.returns-in-Err-clause-many
returns-in-Err-clause-many c =
    let (is, text, one, differ) = c.in-Err.ensures.many in
    let more = c.element_of.result.now in
    let P : Option (Bor (List ℕ)) → Type 0 = λ o. HasElement more (parts_in o) in (
      is,
      text,
      more,
      (c.parts.invariant text).0 (inl one),
      (c.parts.invariant more).0 (inr (subst P (sym c.in-Some.is)
          (part_has _ _ _ _ more c.next_part.ensures (c.element_of.ensures more) refl))),
      differ,
    )
