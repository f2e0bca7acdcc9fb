use Rattle.std.proofs.Common.{Some, None}
use Rattle.stream_searches.proofs.FindLemmas.{needle_stands}
use Rattle.stream_searches.proofs.find.find_bytes.Goals as goal

pub returns-in-Some : goal.returns-in-Some
returns-in-Some c = needle_stands c.args.all.now c.args.literal.now (Some c.in-Some.start)
    c.in-Some.ensures

pub returns-in-None : goal.returns-in-None
returns-in-None c = needle_stands c.args.all.now c.args.literal.now None c.in-None.ensures
