use Rattle.std.proofs.Common.{◌≡◌, ◌<◌, ◌≤◌, ◌+◌, ℕ, nat_eq}
use Rattle.std.specs.Int.{bit_at}
use Rattle.stream_sets.proofs.byte_set.word_of.Given as goal

abbrev pub invariant-loop-bit : goal.invariant-loop-bit
invariant-loop-bit g l = record {
  seen : (i : ℕ) → i < l.bit
      → g.S.ContainsToken.tells l.fn.set (l.fn.first + i) (nat_eq (bit_at l.word i) 1);
  unseen : (i : ℕ) → l.bit ≤ i → bit_at l.word i ≡ 0;
}
