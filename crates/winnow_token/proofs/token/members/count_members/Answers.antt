use Rattle.std.proofs.Common.{arith, ◌∙◌, ap, refl}
use Rattle.std.proofs.lemmas.Grind.{common_steps}
use Rattle.streams.specs.Reading.{units-nil}
use Rattle.winnow_token.proofs.MemberLemmas.{counted_none, counted_more, ends_full}
use Rattle.winnow_token.proofs.MemberLemmas.{ends_before_stranger, ends_full_at_end, open_at_end}
use Rattle.winnow_token.proofs.token.members.count_members.Goals as goal

pub loop-offset-init : goal.loop-offset-init
loop-offset-init g c =
    let none = units-nil g.I.Stream.reading in (
      grind (arith, common_steps),
      grind (arith, common_steps),
      counted_none _ _ _ _ _ none
          (ap g.I.Stream.offsets_left c.into_iter-offset-iterator.ensures.into_iter_gives
          ∙ c.iter_offsets-offset-items.ensures.items),
    )

pub returns-then-count-greatest : goal.returns-then-count-greatest
returns-then-count-greatest g c =
    ends_full _ _ _ _ _ _ _ _ _ (g.met.I.Stream.offsets_step _ _ _ c.in-Some.ensures.steps)
    c.if-count-greatest.true c.loop-offset.invariant.2

pub returns-then-not-contains_token : goal.returns-then-not-contains_token
returns-then-not-contains_token g c =
    ends_before_stranger _ _ _ _ _ _ _ _ _
    (g.met.I.Stream.offsets_step _ _ _ c.in-Some.ensures.steps)
    (c.in-Some.token, refl, grind (arith, common_steps)) c.loop-offset.invariant.2

pub overflow_add-count : goal.overflow_add-count
overflow_add-count g c = let within = c.loop-offset.invariant.2.within in omega (arith, within)

pub loop-offset-preserved : goal.loop-offset-preserved
loop-offset-preserved g c =
    let within = c.loop-offset.invariant.2.within in (
      grind (arith, common_steps),
      grind (arith, common_steps),
      counted_more _ _ _ _ _ _ _ _ _ g.I.Stream.reading.units_add
          (g.met.I.Stream.offsets_step _ _ _ c.in-Some.ensures.steps)
          (c.in-Some.token, refl, grind (arith, common_steps)) (omega (arith, within))
          c.loop-offset.invariant.2,
    )

pub returns-then-count-greatest-2 : goal.returns-then-count-greatest-2
returns-then-count-greatest-2 g c =
    let told = ends_full_at_end _ _ _ _ _ _
    (g.met.I.Stream.offsets_step _ _ _ c.in-None.ensures.steps) c.if-count-greatest-2.true
    c.loop-offset.invariant.2 in
    (told.0, told.1, told.2, told.3, c.eof_offset.ensures ∙ told.4, told.5)

pub returns-else-count-greatest-2 : goal.returns-else-count-greatest-2
returns-else-count-greatest-2 g c =
    open_at_end _ _ _ _ _ _ (g.met.I.Stream.offsets_step _ _ _ c.in-None.ensures.steps)
    c.if-count-greatest-2.false c.loop-offset.invariant.2
