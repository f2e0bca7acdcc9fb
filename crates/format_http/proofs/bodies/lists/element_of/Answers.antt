use Rattle.std.proofs.Common.{arith, inl, inr, subst}
use Rattle.format_http.proofs.BodiesLemmas.Elements.{empty_element, found_element, more_dropped}
use Rattle.format_http.proofs.BodiesLemmas.Elements.{none_dropped, one_element}
use Rattle.format_http.specs.Bodies.Lists.{IsElement}
use Rattle.format_http.proofs.bodies.lists.element_of.Goals as goal
use Rattle.format_http.proofs.bodies.lists.element_of.Goals.{
  else-first-ne32-via-then-first-ne32+else-first-ne9,
  else-first-ne32-via-else-first-ne32,
}

pub white-init : goal.white-init
white-init c = none_dropped c.args.part.now

pub returns-then-first-ne9 : goal.returns-then-first-ne9
returns-then-first-ne9 c =
    let part = c.args.part.now in
    let value = c.trimmed.result.now in
    let found : IsElement value part =
    found_element _ _ c.white.left.now part value c.white.invariant c.in-Some.ensures.cases.0
    (λ white. grind (arith, white, c.if-first-ne32.true, c.if-first-ne9.true)) c.trimmed.ensures in
    λ element. (
      λ is. one_element value element part found is,
      λ same. subst (λ l. IsElement l part) same found,
    )

pub white-preserved : goal.white-preserved
white-preserved c =
    more_dropped _ _ c.white.left.now c.args.part.now c.white.invariant c.in-Some.ensures.cases.0
    (elim c.else-first-ne32.branch [
      | else-first-ne32-via-then-first-ne32+else-first-ne9 w ↦ inr (omega (arith, w.if-first-ne9))
      | else-first-ne32-via-else-first-ne32 w ↦ inl (omega (arith, w.if-first-ne32))
    ])

pub returns : goal.returns
returns c =
    let part = c.args.part.now in
    let left = c.white.left.now in
    let found : IsElement left part =
    empty_element left part c.white.invariant c.in_default.ensures.cases in
    λ element. (
      λ is. one_element left element part found is,
      λ same. subst (λ l. IsElement l part) same found,
    )
