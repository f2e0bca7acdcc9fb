use Rattle.std.proofs.Common.{◌≡◌, ◌∙◌, sym, refl, ap, length, take, drop, ◌++◌, arith}
use Rattle.std.proofs.lemmas.List.{take-append-drop, take_all}
use Rattle.std.proofs.lemmas.Slice.Eq.{starts_is}
use Rattle.stream_searches.proofs.CompareLemmas.{eqb-Decides, StartsWithSpelling-begins}
use Rattle.stream_searches.proofs.compare.begins_with.Goals as goal

pub returns-then-count-in_place : goal.returns-then-count-in_place
returns-then-count-in_place c =
    let all = c.args.all.now in
    let t = c.args.literal.now in
    let told = starts_is eqb-Decides all t c.starts_with.result c.starts_with.ensures.value in (
      λ e. (t, drop (length t) all, refl, told.0 e),
      λ s. let b = StartsWithSpelling-begins t all s in told.1 b.0 b.1,
    )

pub returns : goal.returns
returns c =
    let all = c.args.all.now in
    let t = c.args.literal.now in
    let n = c.loop-at.at in
    let same : take n all ≡ t = c.loop-at.invariant ∙ take_all n t (omega arith) in (
      λ e. (t, drop n all, refl, sym (take-append-drop n all) ∙ ap (λ l. l ++ drop n all) same),
      λ s. refl,
    )
