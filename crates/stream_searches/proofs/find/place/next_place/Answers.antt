use Rattle.std.proofs.Common.{◌+◌, ◌-◌, length, take, drop, arith, length-drop, ap}
use Rattle.std.proofs.lemmas.List.{take_rest}
use Rattle.memchr.specs.Find.{OccursAt}
use Rattle.stream_searches.proofs.PlaceLemmas.{shifted_none, shifted_some, occurs_part}
use Rattle.stream_searches.proofs.PlaceLemmas.{occurs_whole}
use Rattle.stream_searches.proofs.find.place.next_place.Goals as goal

pub returns-in-None : goal.returns-in-None
returns-in-None c =
    let all = c.args.all.now in
    let literal = c.args.literal.now in
    let start = c.args.start in
    let left = take (length all - start) (drop start all) in
    let same = take_rest all start in
    shifted_none (OccursAt all literal) (OccursAt left literal) start (length left + 1)
    (length all + 1) (omega (arith, c.requires, ap (λ l. length l) same, length-drop start all))
    (occurs_part all left literal start c.requires same) c.in-None.ensures

pub returns-in-Some : goal.returns-in-Some
returns-in-Some c =
    let all = c.args.all.now in
    let literal = c.args.literal.now in
    let start = c.args.start in
    let left = take (length all - start) (drop start all) in
    let same = take_rest all start in (
      shifted_some (OccursAt all literal) (OccursAt left literal) start (length left + 1)
          (length all + 1)
          (omega (arith, c.requires, ap (λ l. length l) same, length-drop start all))
          (occurs_part all left literal start c.requires same) c.in-Some.at
          c.in-Some.ensures.0,
      occurs_whole all left literal start c.requires same c.in-Some.at c.in-Some.ensures.1,
    )
