-- Loop invariant: an element is invalid where one of the remaining parts is.
use Rattle.std.proofs.Common.{length}
use Rattle.std.specs.Prelude.{◌↔◌}
use Rattle.format_http.specs.Bodies.Codings.{HasInvalid}
use Rattle.format_http.specs.Bodies.Lists.{quoted_parts_in, quoted_parts_of}
use Rattle.format_http.proofs.bodies.invalid.has_invalid.Given as goal

abbrev pub invariant-parts : goal.invariant-parts
invariant-parts l = HasInvalid (quoted_parts_in l.left) ↔ HasInvalid (quoted_parts_of l.list)

abbrev pub decreases-parts : goal.decreases-parts
decreases-parts l = length (quoted_parts_in l.left)
