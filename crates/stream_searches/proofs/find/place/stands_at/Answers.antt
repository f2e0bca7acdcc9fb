use Rattle.std.proofs.Common.{length, take, drop, ◌-◌}
use Rattle.std.proofs.lemmas.List.{take_rest}
use Rattle.stream_searches.proofs.CompareLemmas.{eqb-Decides}
use Rattle.stream_searches.proofs.PlaceLemmas.{stands_here}
use Rattle.std.proofs.lemmas.Slice.Eq.{starts_is}
use Rattle.stream_searches.proofs.find.place.stands_at.Goals as goal

pub returns : goal.returns
returns c =
    let all = c.args.all.now in
    let literal = c.args.literal.now in
    let at = c.args.at in
    let left = take (length all - at) (drop at all) in
    let told = starts_is eqb-Decides left literal c.starts_with.result c.starts_with.ensures.value
    in
    stands_here all left literal at c.requires (take_rest all at) c.starts_with.result told.0
    told.1
