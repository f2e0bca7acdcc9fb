-- Loop invariant: the Host fields so far and those of the remaining fields are those of all fields.
use Rattle.std.proofs.Common.{◌+◌, ℕ, length}
use Rattle.std.specs.Prelude.{◌≡◌, ◌⊎◌, ◌<◌}
use Rattle.format_http.specs.Heads.Hosts.{AreHosts}
use Rattle.format_http.proofs.heads.hosts.hosts_in.Given as goal

abbrev pub invariant-passed : goal.invariant-passed
invariant-passed g l =
    (before : ℕ) × ((more : ℕ) → AreHosts (g.F.Fields.pairs l.left) more
    → AreHosts (g.F.Fields.pairs l.fn.fields) (before + more))
    × (((l.hosts ≡ before) × (before < 3)) ⊎ ((l.hosts ≡ 2) × (2 < before)))

abbrev pub decreases-passed : goal.decreases-passed
decreases-passed g l = length (g.F.Fields.pairs l.left)
