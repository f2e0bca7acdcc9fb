use Rattle.std.proofs.Common.{arith, ◌≡◌, ◌∙◌, sym, ap, ℕ, ◌+◌, ◌<◌, List, ◌∷◌, ◌++◌, length}
use Rattle.std.proofs.Common.{false}
use Rattle.std.proofs.Common.{take, drop, get_or}
use Rattle.std.proofs.lemmas.List.{take-append-drop, drop_more, length-take-le, take_all}
use Rattle.std.proofs.lemmas.List.Elements.{All-more}
use Rattle.streams.specs.Stream.{AnswersSeen}
use Rattle.streams.proofs.token_slice.TokenSliceStream.offset_for.Goals as goal

-- a list about its element i
about : {X : Type 0} (xs : List X) (i : ℕ) (d : X) → i < length xs
    → xs ≡ take i xs ++ get_or xs i d ∷ drop (i + 1) xs
about xs i d h = sym (take-append-drop i xs) ∙ ap (λ ys. take i xs ++ ys) (drop_more xs i d h)

pub returns-then-test : goal.returns-then-test
returns-then-test g c =
    let xs = c.args.self.now.tokens.now in
    let i = c.loop-offset.offset in
    let x = c.token-item.result in
    let h : i < length xs = omega arith in (
      take i xs,
      get_or xs i x,
      drop (i + 1) xs,
      about xs i x h,
      c.loop-offset.invariant,
      (_, c.token-item.is, c.if-test.ensures),
      sym (length-take-le i xs (omega arith)),
    )

pub loop-offset-preserved : goal.loop-offset-preserved
loop-offset-preserved g c =
    let xs = c.args.self.now.tokens.now in
    let refused = AnswersSeen (λ t. t.now) (g.P.TokenTest.answers c.args.predicate) in
    All-more (λ x. refused x false) xs c.loop-offset.offset c.token-item.result (omega arith)
    c.loop-offset.invariant (_, c.token-item.is, c.if-test.ensures)

pub returns : goal.returns
returns g c = let xs = c.args.self.now.tokens.now
    in rw (take_all c.loop-offset.offset xs (omega arith)) at c.loop-offset.invariant
