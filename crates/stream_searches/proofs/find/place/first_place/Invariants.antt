use Rattle.std.proofs.Common.{◌≤◌, length}
use Rattle.memchr.specs.Find.{Nowhere, OccursAt}
use Rattle.stream_searches.proofs.find.place.first_place.Given as goal

abbrev pub invariant-loop : goal.invariant-loop
invariant-loop l =
    (l.start ≤ length l.fn.all) × Nowhere (OccursAt l.fn.all l.fn.literal) 0 l.start
