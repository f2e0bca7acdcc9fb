-- Loop invariant: the codings so far and the remaining parts have the properties of all parts.
use Rattle.std.proofs.Common.{length}
use Rattle.format_http.proofs.BodiesLemmas.Codings.{IsSame}
use Rattle.format_http.specs.Bodies.Lists.{quoted_parts_in, quoted_parts_of}
use Rattle.format_http.proofs.bodies.codings.codings_so_far.Given as goal

abbrev pub invariant-parts : goal.invariant-parts
invariant-parts l =
    IsSame l.fn.before.chunked l.fn.before.plain (quoted_parts_of l.list) l.now.chunked l.now.plain
    (quoted_parts_in l.left)

abbrev pub decreases-parts : goal.decreases-parts
decreases-parts l = length (quoted_parts_in l.left)
