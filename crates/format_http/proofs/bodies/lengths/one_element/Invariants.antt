-- Loop invariant: the element found and the remaining parts have the elements of all parts.
use Rattle.std.proofs.Common.{List, length, ℕ}
use Rattle.std.specs.Prelude.{◌↔◌, ◌⊎◌}
use Rattle.format_http.specs.Bodies.Lists.{HasElement, IsThe, parts_in, parts_of}
use Rattle.format_http.proofs.bodies.lengths.one_element.Given as goal

abbrev pub invariant-parts : goal.invariant-parts
invariant-parts l =
    (text : List ℕ) → (IsThe l.one text ⊎ HasElement text (parts_in l.left))
    ↔ (IsThe l.found text ⊎ HasElement text (parts_of l.list))

abbrev pub decreases-parts : goal.decreases-parts
decreases-parts l = length (parts_in l.left)
