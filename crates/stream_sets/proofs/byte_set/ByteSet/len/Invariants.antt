use Rattle.std.proofs.Common.{◌≡◌, ◌≤◌}
use Rattle.stream_sets.specs.ByteSet.{members_below}
use Rattle.stream_sets.proofs.byte_set.ByteSet.len.Given as goal

abbrev pub invariant-loop-byte : goal.invariant-loop-byte
invariant-loop-byte l = record {
  counted : l.members ≡ members_below l.self l.byte;
  few : l.members ≤ l.byte;
}
