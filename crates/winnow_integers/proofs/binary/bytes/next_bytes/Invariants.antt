use Rattle.std.proofs.Common.{◌≤◌, length, ◌≡◌, ◌+◌, take}
use Rattle.streams.specs.Input.{Passes}
use Rattle.winnow_integers.proofs.binary.bytes.next_bytes.Given as goal

abbrev pub invariant-loop-place : goal.invariant-loop-place
invariant-loop-place g l =
    (length l.bytes ≡ g.row.N)
    × Passes g.I.Stream.reading (take l.place l.bytes) (g.I.Stream.view l.fn.input)
    (g.I.Stream.view l.input)
    × (g.row.N ≤ l.place + length (g.I.Stream.view l.input).left.tokens)
