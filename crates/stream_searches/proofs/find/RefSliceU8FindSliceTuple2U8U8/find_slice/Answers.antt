use Rattle.std.proofs.Common.{Some, None}
use Rattle.stream_searches.proofs.FindLemmas.{two_stand}
use Rattle.stream_searches.proofs.find.RefSliceU8FindSliceTuple2U8U8.find_slice.Goals as goal

pub returns-in-Some : goal.returns-in-Some
returns-in-Some c = two_stand c.args.substr.0 c.args.substr.1 c.args.self.now.now
    (Some c.in-Some.start) c.in-Some.ensures

pub returns-in-None : goal.returns-in-None
returns-in-None c = two_stand c.args.substr.0 c.args.substr.1 c.args.self.now.now None
    c.in-None.ensures
