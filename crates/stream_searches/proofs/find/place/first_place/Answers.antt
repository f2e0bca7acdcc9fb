use Rattle.std.proofs.Common.{◌≡◌, ◌+◌, ◌<◌, length, arith, slice_index_or}
use Rattle.memchr.specs.Find.{OccursAt, Passes, is_byte}
use Rattle.stream_searches.proofs.PlaceLemmas.{first_byte, found_behind, found_here, none_left}
use Rattle.stream_searches.proofs.PlaceLemmas.{of_one_byte, one_more}
use Rattle.stream_searches.proofs.find.place.first_place.Goals as goal

pub returns-in-None : goal.returns-in-None
returns-in-None c =
    let all = c.args.all.now in
    let literal = c.args.literal.now in
    let some : 0 < length literal = omega arith in
    none_left (OccursAt all literal) (Passes (is_byte (slice_index_or literal 0 0)) all)
    (length all) (first_byte all literal some) 0 c.loop.start c.loop.invariant.1
    (length all + 1) c.in-None.ensures

pub returns-then-stands_at : goal.returns-then-stands_at
returns-then-stands_at c =
    let all = c.args.all.now in
    let literal = c.args.literal.now in
    let some : 0 < length literal = omega arith in
    let next = c.in-Some.ensures.0 in
    let high = next.high in
    found_here (OccursAt all literal) (Passes (is_byte (slice_index_or literal 0 0)) all)
    (length all) (first_byte all literal some) 0 c.loop.start (length all + 1) c.in-Some.at
    (omega arith) c.loop.invariant.1 next (omega (arith, high)) c.if-stands_at.ensures

pub loop-preserved : goal.loop-preserved
loop-preserved c =
    let all = c.args.all.now in
    let literal = c.args.literal.now in
    let some : 0 < length literal = omega arith in
    let next = c.in-Some.ensures.0 in
    let high = next.high in (
      omega (arith, high),
      one_more (OccursAt all literal) (Passes (is_byte (slice_index_or literal 0 0)) all)
          (length all) (first_byte all literal some) 0 c.loop.start c.loop.invariant.1
          c.in-Some.at next c.if-stands_at.ensures,
    )

pub returns : goal.returns
returns c =
    let all = c.args.all.now in
    found_behind (OccursAt all c.args.literal.now) 0 c.loop.start (length all + 1) (omega arith)
    c.loop.invariant.1 c.further_place.result c.further_place.ensures

pub returns-then-literal-eq1 : goal.returns-then-literal-eq1
returns-then-literal-eq1 c =
    let one : length c.args.literal.now ≡ 1 = c.if-literal-eq1.true in
    of_one_byte c.args.all.now c.args.literal.now one c.next_byte.result c.next_byte.ensures
