use Rattle.exported.proofs.Chunked.{taken_before}
use Rattle.exported.proofs.http.chunked.step_of.Goals as goal

pub taken_of-requires : goal.taken_of-requires
taken_of-requires c = taken_before _ _ c.args.said c.requires
