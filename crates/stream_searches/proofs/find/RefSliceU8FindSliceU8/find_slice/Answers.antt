use Rattle.std.proofs.Common.{Some, None}
use Rattle.stream_searches.proofs.FindLemmas.{one_stands}
use Rattle.stream_searches.proofs.find.RefSliceU8FindSliceU8.find_slice.Goals as goal

pub returns-in-Some : goal.returns-in-Some
returns-in-Some c = one_stands c.args.substr c.args.self.now.now (Some c.in-Some.start)
    c.in-Some.ensures

pub returns-in-None : goal.returns-in-None
returns-in-None c = one_stands c.args.substr c.args.self.now.now None c.in-None.ensures
