use Rattle.std.proofs.Common.{◌≡◌, length, chars, refl, arith}
use Rattle.std.proofs.lemmas.Grind.{common_steps}
use Rattle.streams.proofs.TextLemmas.{known_at_end, counted_more}
use Rattle.streams.proofs.text.RefStrStream.offset_at.Goals as goal

pub returns-then-is_none : goal.returns-then-is_none
returns-then-is_none c =
    let all : c.loop.counter ≡ length (chars c.args.self.now.now) =
    known_at_end _ _ _ _ _ c.if-is_none.ensures c.next.ensures.steps c.loop.invariant.2 in
    (omega (arith, all), refl)

pub loop-preserved : goal.loop-preserved
loop-preserved c = (
  grind (arith, common_steps),
  grind (arith, common_steps),
  counted_more _ _ _ _ _ c.if-is_none.ensures c.next.ensures.steps c.loop.invariant.2,
)
