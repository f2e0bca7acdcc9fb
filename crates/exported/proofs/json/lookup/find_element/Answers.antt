use Rattle.std.proofs.Common.{arith}
use Rattle.exported.proofs.JsonNodes.{breaks_element, elements_begin, elements_more, finds_element}
use Rattle.exported.proofs.JsonNodes.{lacks_element}
use Rattle.exported.proofs.json.lookup.find_element.Goals as goal

pub elements-init : goal.elements-init
elements-init c = record {
  passes = elements_begin c.in_ok-after.ensures;
  few = omega arith;
}

pub returns-then-at-after-clause-some : goal.returns-then-at-after-clause-some
returns-then-at-after-clause-some c =
    lacks_element c.elements.invariant.passes (omega (arith, c.if-at-after.true))
    c.elements.invariant.few

pub returns-then-passed-position-clause-some : goal.returns-then-passed-position-clause-some
returns-then-passed-position-clause-some c =
    finds_element c.elements.invariant.passes (omega (arith, c.if-at-after.false))
    c.elements.invariant.few (omega (arith, c.if-passed-position.true))

pub returns-then-next-at-clause-none : goal.returns-then-next-at-clause-none
returns-then-next-at-clause-none c =
    breaks_element c.elements.invariant.passes (omega (arith, c.if-at-after.false))
    (omega (arith, c.if-passed-position.false)) (omega (arith, c.if-next-at.true))

pub elements-preserved : goal.elements-preserved
elements-preserved c = record {
  passes = elements_more c.elements.invariant.passes (omega (arith, c.if-at-after.false))
      (omega (arith, c.if-next-at.false));
  few = omega (arith, c.if-passed-position.false);
}
