-- Loop invariant: a field has the option where one of the remaining fields has it.
use Rattle.std.proofs.Common.{length}
use Rattle.std.specs.Prelude.{◌↔◌}
use Rattle.format_http.specs.Persistence.{HasOption}
use Rattle.format_http.proofs.persistence.has_option.Given as goal

abbrev pub invariant-passed : goal.invariant-passed
invariant-passed g l =
    HasOption l.option (g.F.Fields.pairs l.left) ↔ HasOption l.option (g.F.Fields.pairs l.fn.fields)

abbrev pub decreases-passed : goal.decreases-passed
decreases-passed g l = length (g.F.Fields.pairs l.left)
