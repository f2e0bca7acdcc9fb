-- Loop invariant: a field is invalid where one of the remaining fields is.
use Rattle.std.proofs.Common.{length}
use Rattle.std.specs.Prelude.{◌↔◌}
use Rattle.format_http.specs.Bodies.Codings.{HaveInvalid}
use Rattle.format_http.proofs.bodies.invalid.have_invalid.Given as goal

abbrev pub invariant-passed : goal.invariant-passed
invariant-passed g l =
    HaveInvalid (g.F.Fields.pairs l.left) ↔ HaveInvalid (g.F.Fields.pairs l.fn.fields)

abbrev pub decreases-passed : goal.decreases-passed
decreases-passed g l = length (g.F.Fields.pairs l.left)
