use Rattle.streams.specs.Bytes.{slice_ends}
use Rattle.streams.proofs.bytes.RefSliceU8Stream.next_token.Goals as goal

pub returns-in-len1-up-clause-ends : goal.returns-in-len1-up-clause-ends
returns-in-len1-up-clause-ends c = slice_ends 1 c.args.self.now.now
