use Rattle.std.proofs.Common.{◌+◌, ◌-◌, ℕ, List, length, take, drop, slice_index_or, sym, subst}
use Rattle.std.proofs.Common.{arith, ◌∙◌}
use Rattle.std.proofs.lemmas.List.{take_rest}
use Rattle.memchr.specs.Find.{Nowhere, Passes, is_byte3}
use Rattle.stream_searches.specs.Compare.{StartsWithSpelling}
use Rattle.stream_searches.specs.Three.{IsOneOfThree}
use Rattle.stream_searches.proofs.SeveralLemmas.{begin_three, candidate, none_left, found_first}
use Rattle.stream_searches.proofs.SeveralLemmas.{one_more, none_at_start}
use Rattle.stream_searches.proofs.find.several.find_several.Goals as goal

pub loop-at-init : goal.loop-at-init
loop-at-init c = (
  omega arith,
  none_at_start c.args.all.now
      (IsOneOfThree c.args.first.now c.args.second.now c.args.third.now),
)

pub returns-in-Some-first_length : goal.returns-in-Some-first_length
returns-in-Some-first_length c =
    let all = c.args.all.now in
    let start = c.loop-at.start in
    let at = c.in-Some.at in
    let here = candidate all c.args.first.now c.args.second.now c.args.third.now start at
    c.requires.first c.requires.second c.requires.third c.loop-at.invariant.1
    (take (length all - start) (drop start all)) (take_rest all start) c.in-Some.ensures.0
    in
    let (front, rest, is, split, n) = c.in-Some-first_length.ensures in
    found_first (IsOneOfThree c.args.first.now c.args.second.now c.args.third.now) all
    (start + at) c.in-Some-first_length.length here.before
    (let w = here.within in omega (arith, w)) front rest is
    (sym (take_rest all (start + at)) ∙ split) n

pub loop-at-smaller : goal.loop-at-smaller
loop-at-smaller c =
    let all = c.args.all.now in
    let start = c.loop-at.start in
    let here = candidate all c.args.first.now c.args.second.now c.args.third.now start
    c.in-Some.at c.requires.first c.requires.second c.requires.third c.loop-at.invariant.1
    (take (length all - start) (drop start all)) (take_rest all start) c.in-Some.ensures.0
    in
    let within = here.within in
    omega (arith, within)

pub loop-at-preserved : goal.loop-at-preserved
loop-at-preserved c =
    let all = c.args.all.now in
    let start = c.loop-at.start in
    let at = c.in-Some.at in
    let sought = IsOneOfThree c.args.first.now c.args.second.now c.args.third.now in
    let here = candidate all c.args.first.now c.args.second.now c.args.third.now start at
    c.requires.first c.requires.second c.requires.third c.loop-at.invariant.1
    (take (length all - start) (drop start all)) (take_rest all start) c.in-Some.ensures.0
    in
    let within = here.within in
    let P : List ℕ → Type 0 = λ l. StartsWithSpelling sought l → ⊥ in (
      omega (arith, within),
      one_more sought all (start + at) here.before
          (subst P (take_rest all (start + at)) c.in_default-first_length.ensures),
    )

pub returns : goal.returns
returns c =
    let all = c.args.all.now in
    let a = c.args.first.now in
    let b = c.args.second.now in
    let d = c.args.third.now in
    let start = c.loop-at.start in
    let test = is_byte3 (slice_index_or a 0 0) (slice_index_or b 0 0) (slice_index_or d 0 0) in
    let P : List ℕ → Type 0 = λ l. Nowhere (Passes test l) 0 (length l) in
    none_left test (IsOneOfThree a b d)
    (begin_three a b d c.requires.first c.requires.second c.requires.third) all start
    c.loop-at.invariant.1 (subst P (take_rest all start) c.in_default.ensures)
