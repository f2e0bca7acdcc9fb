-- Loop invariant: the codings so far and the remaining fields have the properties of all fields.
use Rattle.std.proofs.Common.{length}
use Rattle.format_http.proofs.BodiesLemmas.Codings.{AreSame}
use Rattle.format_http.proofs.bodies.codings.end_chunked.Given as goal

abbrev pub invariant-passed : goal.invariant-passed
invariant-passed g l =
    AreSame l.now.chunked l.now.plain (g.F.Fields.pairs l.left) (g.F.Fields.pairs l.fn.fields)

abbrev pub decreases-passed : goal.decreases-passed
decreases-passed g l = length (g.F.Fields.pairs l.left)
