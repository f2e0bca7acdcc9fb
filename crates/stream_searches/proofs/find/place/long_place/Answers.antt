use Rattle.std.proofs.Common.{◌+◌, length, take, arith, sym}
use Rattle.std.proofs.lemmas.List.{length-take-le}
use Rattle.memchr.specs.Find.{OccursAt}
use Rattle.stream_searches.proofs.PlaceLemmas.{first_bytes, found_behind, found_here, none_left}
use Rattle.stream_searches.proofs.PlaceLemmas.{one_more}
use Rattle.stream_searches.proofs.find.place.long_place.Goals as goal

pub slice_bounds-next_place-end : goal.slice_bounds-next_place-end
slice_bounds-next_place-end c = sym (length-take-le 32 c.args.literal.now (omega arith))

pub returns-in-None : goal.returns-in-None
returns-in-None c =
    let all = c.args.all.now in
    let literal = c.args.literal.now in
    none_left (OccursAt all literal) (OccursAt all (take 32 literal)) (length all + 1)
    (first_bytes all literal 32 (omega arith)) c.args.start c.loop.from c.loop.invariant.2
    (length all + 1) c.in-None.ensures

pub returns-then-stands_at : goal.returns-then-stands_at
returns-then-stands_at c =
    let all = c.args.all.now in
    let literal = c.args.literal.now in
    let next = c.in-Some.ensures.0 in
    let high = next.high in
    found_here (OccursAt all literal) (OccursAt all (take 32 literal)) (length all + 1)
    (first_bytes all literal 32 (omega arith)) c.args.start c.loop.from (length all + 1)
    c.in-Some.at c.loop.invariant.0 c.loop.invariant.2 next high c.if-stands_at.ensures

pub loop-preserved : goal.loop-preserved
loop-preserved c =
    let all = c.args.all.now in
    let literal = c.args.literal.now in
    let next = c.in-Some.ensures.0 in
    let low = next.low in
    let fits = c.in-Some.ensures.1.fits in
    let size = length-take-le 32 literal (omega arith) in (
      omega (arith, low, c.loop.invariant.0),
      omega (arith, fits, size),
      one_more (OccursAt all literal) (OccursAt all (take 32 literal)) (length all + 1)
          (first_bytes all literal 32 (omega arith)) c.args.start c.loop.from
          c.loop.invariant.2 c.in-Some.at next c.if-stands_at.ensures,
    )

pub returns : goal.returns
returns c =
    let all = c.args.all.now in
    found_behind (OccursAt all c.args.literal.now) c.args.start c.loop.from (length all + 1)
    c.loop.invariant.0 c.loop.invariant.2 c.next_place-2.result c.next_place-2.ensures
