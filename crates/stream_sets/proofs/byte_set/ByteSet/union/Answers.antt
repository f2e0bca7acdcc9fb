use Rattle.stream_sets.proofs.WordLemmas.{union_bits}
use Rattle.stream_sets.proofs.byte_set.ByteSet.union.Goals as goal

pub returns : goal.returns
returns c = λ b below. union_bits c.args.self.words c.args.other.words b below
