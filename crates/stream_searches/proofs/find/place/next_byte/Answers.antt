use Rattle.std.proofs.Common.{◌-◌, length, take, drop, arith, length-drop, ap}
use Rattle.std.proofs.lemmas.List.{take_rest}
use Rattle.memchr.specs.Find.{Passes, is_byte}
use Rattle.stream_searches.proofs.PlaceLemmas.{shifted_none, shifted_some, passes_part}
use Rattle.stream_searches.proofs.PlaceLemmas.{passes_whole}
use Rattle.stream_searches.proofs.find.place.next_byte.Goals as goal

pub returns-in-None : goal.returns-in-None
returns-in-None c =
    let all = c.args.all.now in
    let start = c.args.start in
    let left = take (length all - start) (drop start all) in
    let same = take_rest all start in
    let test = is_byte c.args.byte in
    shifted_none (Passes test all) (Passes test left) start (length left) (length all)
    (omega (arith, c.requires, ap (λ l. length l) same, length-drop start all))
    (passes_part test all left start same) c.in-None.ensures

pub returns-in-Some : goal.returns-in-Some
returns-in-Some c =
    let all = c.args.all.now in
    let start = c.args.start in
    let left = take (length all - start) (drop start all) in
    let same = take_rest all start in
    let test = is_byte c.args.byte in (
      shifted_some (Passes test all) (Passes test left) start (length left) (length all)
          (omega (arith, c.requires, ap (λ l. length l) same, length-drop start all))
          (passes_part test all left start same) c.in-Some.at c.in-Some.ensures.0,
      passes_whole test all left start same c.in-Some.at c.in-Some.ensures.1,
    )
