-- Loop invariant: a Host field is invalid where one of the remaining fields is.
use Rattle.std.proofs.Common.{length}
use Rattle.std.specs.Prelude.{◌↔◌}
use Rattle.format_http.specs.Heads.Hosts.{HasInvalidHost}
use Rattle.format_http.proofs.heads.hosts.has_invalid_host.Given as goal

abbrev pub invariant-passed : goal.invariant-passed
invariant-passed g l =
    HasInvalidHost (g.F.Fields.pairs l.left) ↔ HasInvalidHost (g.F.Fields.pairs l.fn.fields)

abbrev pub decreases-passed : goal.decreases-passed
decreases-passed g l = length (g.F.Fields.pairs l.left)
