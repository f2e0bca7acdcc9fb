use Rattle.std.proofs.Common.{◌≡◌, ◌++◌, false, length, map}
use Rattle.std.specs.List.{All}
use Rattle.streams.specs.Stream.{AnswersSeen, with_offsets}
use Rattle.stream_bits.specs.BitInput.{bits_from}
use Rattle.stream_bits.specs.Offsets.{bits_to_come}
use Rattle.stream_bits.proofs.bits.BitsStream.offset_for.Given as goal

abbrev pub invariant-loop-offset : goal.invariant-loop-offset
invariant-loop-offset g l =
    let s = l.offset-iterator in
    (goal.iterator-loop-offset g).can_next s
    × (goal.iterator-loop-offset g).is_finite s
    × (with_offsets length 0 (bits_from (g.I.Stream.view l.self.0).left.tokens l.self.1)
    ≡ l.yielded ++ with_offsets length s.offset
    (bits_to_come s.possible (g.I.Stream.offsets_left s.bytes) s.begun s.ahead))
    × All (λ b. AnswersSeen (λ t. t) (g.P.TokenTest.answers l.predicate) b false)
    (map (λ x. x.1) l.yielded)
