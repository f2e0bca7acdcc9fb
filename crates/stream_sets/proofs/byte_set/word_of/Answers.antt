use Rattle.std.proofs.Common.{◌+◌, ℕ, Bool, arith}
use Rattle.stream_sets.proofs.WordLemmas.{none_above, with_member, without_member}
use Rattle.stream_sets.proofs.byte_set.word_of.Goals as goal
use Rattle.stream_sets.proofs.byte_set.word_of.Goals.{then-contains_token, else-contains_token}

pub loop-bit-preserved : goal.loop-bit-preserved
loop-bit-preserved g c =
    let Told : ℕ → Bool → Type 0 = λ i b. g.S.ContainsToken.tells c.args.set.now
    (c.args.first + i) b in
    elim c.if-contains_token.branch [
      | then-contains_token w ↦ record {
        seen = rw w.word-is (with_member Told c.loop-bit.word c.loop-bit.bit c.loop-bit-test.true
            w.if-contains_token.ensures c.loop-bit.invariant.seen);
        unseen = rw w.word-is (none_above c.loop-bit.word c.loop-bit.bit c.loop-bit-test.true
            c.loop-bit.invariant.unseen);
      }
      | else-contains_token w ↦ record {
        seen = rw w.word-is (without_member Told c.loop-bit.word c.loop-bit.bit
            (c.loop-bit.invariant.unseen c.loop-bit.bit (omega arith))
            w.if-contains_token.ensures c.loop-bit.invariant.seen);
        unseen = rw w.word-is (λ i above. c.loop-bit.invariant.unseen i (omega arith));
      }
    ]
