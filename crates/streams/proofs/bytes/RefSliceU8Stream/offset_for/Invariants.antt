use Rattle.std.proofs.Common.{◌≡◌, ◌≤◌, ◌+◌, ◌-◌, false, length, take}
use Rattle.std.specs.List.{All}
use Rattle.streams.specs.Stream.{AnswersSeen}
use Rattle.streams.proofs.bytes.RefSliceU8Stream.offset_for.Given as goal

abbrev pub invariant-short : goal.invariant-short
invariant-short g l =
    (l.from ≤ length l.all)
    × All (λ x. AnswersSeen (λ t. t) (g.P.TokenTest.answers l.predicate) x false)
    (take l.from l.all)

abbrev pub decreases-short : goal.decreases-short
decreases-short g l = 16 - l.from

abbrev pub invariant-loop-next : goal.invariant-loop-next
invariant-loop-next g l =
    l.is_found ≡ false
    → All (λ x. AnswersSeen (λ t. t) (g.P.TokenTest.answers l.predicate) x false)
    (take (l.from + l.next) l.all)

abbrev pub invariant-long : goal.invariant-long
invariant-long g l =
    (l.from ≤ length l.all)
    × All (λ x. AnswersSeen (λ t. t) (g.P.TokenTest.answers l.predicate) x false)
    (take l.from l.all)

abbrev pub decreases-long : goal.decreases-long
decreases-long g l = length l.all - l.from

abbrev pub invariant-loop-i : goal.invariant-loop-i
invariant-loop-i g l =
    All (λ x. AnswersSeen (λ t. t) (g.P.TokenTest.answers l.predicate) x false) (take l.i l.all)
