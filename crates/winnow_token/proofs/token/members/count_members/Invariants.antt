use Rattle.streams.specs.Stream.{AnswersSeen}
use Rattle.winnow_token.proofs.MemberLemmas.{Counted}
use Rattle.winnow_token.proofs.token.members.count_members.Given as goal

abbrev pub invariant-loop-offset : goal.invariant-loop-offset
invariant-loop-offset g l =
    (goal.iterator-loop-offset g).can_next l.offset-iterator
    × (goal.iterator-loop-offset g).is_finite l.offset-iterator
    × Counted (AnswersSeen g.I.Stream.seen_as (g.S.ContainsToken.tells l.set))
    g.I.Stream.reading.units (g.I.Stream.view l.input).left.tokens l.greatest l.count
    (g.I.Stream.offsets_left l.offset-iterator)
