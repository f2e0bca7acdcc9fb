use Rattle.std.proofs.Common.{length}
use Rattle.format_http_places.specs.Grammar.{Continues}
use Rattle.format_http_places.specs.States.{Due}
use Rattle.format_http_places.proofs.extent.walk.Given as goal

abbrev pub invariant-runs : goal.invariant-runs
invariant-runs l = Continues (Due l.fn.from) l.fresh (Due l.place) l.rest

abbrev pub decreases-runs : goal.decreases-runs
decreases-runs l = length l.rest
