use Rattle.std.proofs.Common.{false}
use Rattle.std.specs.List.{All}
use Rattle.streams.specs.Stream.{AnswersSeen}
use Rattle.streams.proofs.TextLemmas.{Passed}
use Rattle.streams.proofs.text.RefStrStream.offset_for.Given as goal

abbrev pub invariant-loop-offset : goal.invariant-loop-offset
invariant-loop-offset g l =
    (goal.iterator-loop-offset g).can_next l.offset-iterator
    × (goal.iterator-loop-offset g).is_finite l.offset-iterator
    × Passed (All (λ c. AnswersSeen (λ t. t) (g.P.TokenTest.answers l.predicate) c false))
    l.self.now l.offset-iterator
