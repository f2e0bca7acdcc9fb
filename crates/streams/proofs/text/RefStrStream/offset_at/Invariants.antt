use Rattle.std.proofs.Common.{◌≡◌, length}
use Rattle.streams.proofs.TextLemmas.{Passed}
use Rattle.streams.proofs.text.RefStrStream.offset_at.Given as goal

abbrev pub invariant-loop : goal.invariant-loop
invariant-loop l =
    goal.iterator-loop.can_next l.rest × goal.iterator-loop.is_finite l.rest
    × Passed (λ front. l.counter ≡ length front) l.self.now l.rest
