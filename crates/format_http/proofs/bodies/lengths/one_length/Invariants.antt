-- Loop invariant: the length found and the remaining fields have the elements of all fields.
use Rattle.std.proofs.Common.{List, length, ℕ}
use Rattle.std.specs.Prelude.{◌↔◌, ◌⊎◌}
use Rattle.format_http.specs.Bodies.Lengths.{HasLength}
use Rattle.format_http.specs.Bodies.Lists.{IsThe}
use Rattle.format_http.proofs.bodies.lengths.one_length.Given as goal

abbrev pub invariant-passed : goal.invariant-passed
invariant-passed g l =
    (text : List ℕ) → (IsThe l.one text ⊎ HasLength text (g.F.Fields.pairs l.left))
    ↔ HasLength text (g.F.Fields.pairs l.fn.fields)

abbrev pub decreases-passed : goal.decreases-passed
decreases-passed g l = length (g.F.Fields.pairs l.left)
