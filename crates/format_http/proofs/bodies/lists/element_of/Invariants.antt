-- Whitespace was taken off the beginning.
use Rattle.std.proofs.Common.{length}
use Rattle.format_http.proofs.BodiesLemmas.Elements.{IsDropped}
use Rattle.format_http.proofs.bodies.lists.element_of.Given as goal

abbrev pub invariant-white : goal.invariant-white
invariant-white l = IsDropped l.left l.part

abbrev pub decreases-white : goal.decreases-white
decreases-white l = length l.left
