use Rattle.std.proofs.Common.{false, take}
use Rattle.std.specs.List.{All}
use Rattle.streams.specs.Stream.{AnswersSeen}
use Rattle.streams.proofs.token_slice.TokenSliceStream.offset_for.Given as goal

abbrev pub invariant-loop-offset : goal.invariant-loop-offset
invariant-loop-offset g l =
    All (λ x. AnswersSeen (λ t. t.now) (g.P.TokenTest.answers l.predicate) x false)
    (take l.offset l.self.tokens.now)
