use Rattle.format_http_places.proofs.Extents.{kept, led, told}
use Rattle.format_http_places.proofs.extent.HeadExtent.advance.Goals as goal

pub returns-in-Some-clause-fresh : goal.returns-in-Some-clause-fresh
returns-in-Some-clause-fresh c room =
    let (low, high, is, size) = c.in-Some.ensures.lookup.0 in
    led c.args.self.now c.args.bytes.now c.in-Some.fresh.now c.walk-place.result.1.now
    c.walk-place.result.0 c.say.result is low c.walk-place.ensures c.say.ensures

pub returns-in-Some-clause-told : goal.returns-in-Some-clause-told
returns-in-Some-clause-told c kind here =
    told _ c.say.result here (returns-in-Some-clause-fresh c c.in-Some.ensures.lookup.0.0)

pub returns-in-Some-clause-kept : goal.returns-in-Some-clause-kept
returns-in-Some-clause-kept c kind here =
    kept _ c.say.result here (returns-in-Some-clause-fresh c c.in-Some.ensures.lookup.0.0)
