-- Loop invariant: a field has the name where one of the remaining fields has it.
use Rattle.std.proofs.Common.{length}
use Rattle.std.specs.Prelude.{◌↔◌}
use Rattle.format_http.specs.Bodies.Fields.{HasOne}
use Rattle.format_http.proofs.bodies.fields.has.Given as goal

abbrev pub invariant-passed : goal.invariant-passed
invariant-passed g l =
    HasOne l.name (g.F.Fields.pairs l.left) ↔ HasOne l.name (g.F.Fields.pairs l.fn.fields)

abbrev pub decreases-passed : goal.decreases-passed
decreases-passed g l = length (g.F.Fields.pairs l.left)
