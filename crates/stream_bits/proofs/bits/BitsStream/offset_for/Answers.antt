use Rattle.std.proofs.Common.{refl, sym, ap, ◌∙◌, ◌++◌, ◌∷◌, [], List, Bool, false, map, subst}
use Rattle.std.proofs.Common.{arith, ℕ}
use Rattle.std.specs.List.{All}
use Rattle.std.proofs.lemmas.List.{append-nil, map-append}
use Rattle.std.proofs.lemmas.List.Elements.{All-push}
use Rattle.streams.specs.Stream.{AnswersSeen}
use Rattle.stream_bits.specs.BitInput.{bits_from}
use Rattle.stream_bits.proofs.OffsetsLemmas.{given_more, stands_at, tokens_given}
use Rattle.stream_bits.proofs.bits.BitsStream.offset_for.Goals as goal

pub returns-then-test : goal.returns-then-test
returns-then-test g c =
    let bits = bits_from (g.I.Stream.view c.args.self.now.0).left.tokens c.args.self.now.1 in
    let yielded = c.loop-offset.yielded in
    let at = stands_at 0 bits yielded c.in-Some.offset c.in-Some.bit _
    (c.loop-offset.invariant.2 ∙ ap (λ l. yielded ++ l) c.in-Some.ensures.steps) in (
      map (λ x. x.1) yielded,
      c.in-Some.bit,
      at.rest,
      at.splits,
      c.loop-offset.invariant.3,
      (c.in-Some.bit, refl, c.if-test.ensures),
      omega (arith, at.at),
    )

pub loop-offset-preserved : goal.loop-offset-preserved
loop-offset-preserved g c =
    let yielded = c.loop-offset.yielded in
    let refused = AnswersSeen (λ t. t) (g.P.TokenTest.answers c.args.predicate) in
    let P : List Bool → Type 0 = λ l. All (λ b. refused b false) l in (
      c.in-Some.ensures.goes.keeps,
      tt,
      given_more _ yielded c.in-Some.offset c.in-Some.bit _ _ c.loop-offset.invariant.2
          c.in-Some.ensures.steps,
      subst P (sym (map-append (λ (x : ℕ × Bool). x.1) yielded
          ((c.in-Some.offset, c.in-Some.bit) ∷ [])))
          (All-push (λ b. refused b false) (map (λ x. x.1) yielded) c.in-Some.bit
          c.loop-offset.invariant.3 (c.in-Some.bit, refl, c.if-test.ensures)),
    )

pub returns : goal.returns
returns g c =
    let bits = bits_from (g.I.Stream.view c.args.self.now.0).left.tokens c.args.self.now.1 in
    let yielded = c.loop-offset.yielded in
    let refused = AnswersSeen (λ t. t) (g.P.TokenTest.answers c.args.predicate) in
    let P : List Bool → Type 0 = λ l. All (λ b. refused b false) l in
    let given = c.loop-offset.invariant.2 ∙ ap (λ l. yielded ++ l) c.in-None.ensures.steps
    ∙ append-nil yielded in
    subst P (sym (ap (λ l. map (λ (x : ℕ × Bool). x.1) l) given) ∙ tokens_given 0 bits)
    c.loop-offset.invariant.3
