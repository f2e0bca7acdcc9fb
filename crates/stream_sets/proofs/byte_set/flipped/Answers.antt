use Rattle.std.proofs.lemmas.Nat.Bits.{bit_at_not}
use Rattle.std.specs.Int.{w64}
use Rattle.stream_sets.proofs.byte_set.flipped.Goals as goal

pub returns : goal.returns
returns c = λ i within. bit_at_not w64 c.args.word i c.ranges.word.fits within
