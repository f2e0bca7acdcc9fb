use Rattle.std.proofs.Common.{inl, inr, refl, ap, ◌∷◌, []}
use Rattle.parser_definitions.specs.Left.{left_of}
use Rattle.winnow_core.specs.Leaves.{passed_of}
use Rattle.winnow_numbers.proofs.LeftLemmas.{back_to}
use Rattle.winnow_numbers.proofs.NumeralLemmas.{is_sign, no_sign}
use Rattle.winnow_numbers.proofs.ascii.numeral.first_sign.Goals as goal

pub returns-then-character-eq43-clause-ran : goal.returns-then-character-eq43-clause-ran
returns-then-character-eq43-clause-ran g c =
    inl (
      c.in-Some.token,
      refl,
      is_sign _ _ c.as_char-character.ensures c.then-character-eq43.either,
      passed_of c.in-Some.ensures.passes,
      ap (λ x. x ∷ []) c.as_char-character.ensures,
    )

pub returns-clause-ran : goal.returns-clause-ran
returns-clause-ran g c =
    let passes = c.in-Some.ensures.passes in
    inr (
      λ _. inr (
        _,
        _,
        passes.tokens,
        (
          c.in-Some.token,
          refl,
          no_sign _ _ c.as_char-character.ensures c.if-character-eq43.false
              c.if-character-eq45.false,
        ),
      ),
      refl,
      ap left_of (back_to (g.I.Stream.view c.args.input.now)
          (g.I.Stream.view c.next_token.new.self) _ _ c.checkpoint-start.ensures passes.status
          c.reset.ensures),
    )
