use Rattle.std.proofs.Common.{sym, ap, length, arith}
use Rattle.std.proofs.lemmas.Bool.{both_ways}
use Rattle.std.proofs.lemmas.Slice.Eq.{starts_is}
use Rattle.stream_searches.proofs.CompareLemmas.{eqb-Decides, StartsWithSpelling-length}
use Rattle.stream_searches.proofs.CompareLemmas.{IsShort-length}
use Rattle.stream_searches.proofs.CompareLemmas.{IsShort-of_beginning}
use Rattle.stream_searches.proofs.compare.compare_bytes.Goals as goal

pub returns-then-begins_with : goal.returns-then-begins_with
returns-then-begins_with c =
    let (front, rest, e, split) = c.begins_with.ensures.0 c.if-begins_with.true in
    (front, rest, e, split, ap (λ l. length l) (sym e))

pub returns-else-begins_with : goal.returns-else-begins_with
returns-else-begins_with c =
    let all = c.args.all.now in
    let t = c.args.literal.now in (
      λ s. let longer = IsShort-length t all s in absurd (omega (arith, longer)),
      λ s. both_ways _ c.if-begins_with.false (c.begins_with.ensures.1 s),
    )

pub returns-then-starts_with : goal.returns-then-starts_with
returns-then-starts_with c =
    let all = c.args.all.now in
    let t = c.args.literal.now in
    let told = starts_is eqb-Decides t all c.starts_with.result c.starts_with.ensures.value in (
      IsShort-of_beginning t all _ (told.0 c.if-starts_with.true) (omega arith),
      λ s. let shorter = StartsWithSpelling-length t all s in absurd (omega (arith, shorter)),
    )

pub returns-else-starts_with : goal.returns-else-starts_with
returns-else-starts_with c =
    let all = c.args.all.now in
    let t = c.args.literal.now in
    let told = starts_is eqb-Decides t all c.starts_with.result c.starts_with.ensures.value in (
      λ s. both_ways _ c.if-starts_with.false (told.1 _ (sym s.2)),
      λ s. let shorter = StartsWithSpelling-length t all s in absurd (omega (arith, shorter)),
    )
