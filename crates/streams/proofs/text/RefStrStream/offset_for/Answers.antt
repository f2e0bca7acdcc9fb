use Rattle.std.proofs.Common.{◌∙◌, false, chars, None, refl, arith, rules}
use Rattle.std.specs.Str.Iter.{char_indices_rest}
use Rattle.std.proofs.lemmas.Grind.{common_steps}
use Rattle.std.proofs.lemmas.List.Elements.{All-push}
use Rattle.streams.specs.Stream.{AnswersSeen}
use Rattle.streams.proofs.TextLemmas.{next_splits, passed_more, known_at_end}
use Rattle.streams.proofs.text.RefStrStream.offset_for.Goals as goal

pub returns-then-test : goal.returns-then-test
returns-then-test g c =
    let passed = c.loop-offset.invariant.2 in
    let step = c.in-Some.ensures.steps in (
      passed.front,
      c.in-Some.c,
      chars (char_indices_rest c.next.new.self),
      next_splits _ _ _ c.next.new.self (c.in-Some.offset, c.in-Some.c) step passed,
      passed.known,
      (c.in-Some.c, refl, search rules),
      step.0 ∙ passed.offset,
    )

pub loop-offset-preserved : goal.loop-offset-preserved
loop-offset-preserved g c =
    let refused = AnswersSeen (λ t. t) (g.P.TokenTest.answers c.args.predicate) in (
      grind (arith, common_steps),
      grind (arith, common_steps),
      passed_more _ _ _ _ _ (c.in-Some.offset, c.in-Some.c) c.in-Some.ensures.steps
          (λ front known. All-push (λ x. refused x false) front c.in-Some.c known
          (c.in-Some.c, refl, search rules)) c.loop-offset.invariant.2,
    )

pub returns : goal.returns
returns g c = known_at_end _ _ _ None c.next.new.self refl c.in-None.ensures.steps
    c.loop-offset.invariant.2
