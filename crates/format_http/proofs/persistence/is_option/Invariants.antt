-- Loop invariant: a part is the option where one of the remaining parts is.
use Rattle.std.proofs.Common.{length}
use Rattle.std.specs.Prelude.{◌↔◌}
use Rattle.format_http.specs.Bodies.Lists.{parts_in, parts_of}
use Rattle.format_http.specs.Persistence.{IsOption}
use Rattle.format_http.proofs.persistence.is_option.Given as goal

abbrev pub invariant-parts : goal.invariant-parts
invariant-parts l = IsOption l.option (parts_in l.left) ↔ IsOption l.option (parts_of l.list)

abbrev pub decreases-parts : goal.decreases-parts
decreases-parts l = length (parts_in l.left)
