use Rattle.std.proofs.Common.{arith, inl, refl, sym, ◌∙◌}
use Rattle.winnow_core.specs.Leaves.{passed_of}
use Rattle.winnow_numbers.proofs.DigitLemmas.{begun_ended, begun_more, begun_one, begun_stopped}
use Rattle.winnow_numbers.proofs.DigitLemmas.{passes_fewer}
use Rattle.winnow_numbers.proofs.ascii.digits.numeral_by_tokens.Goals as goal

pub returns-in-0-clause-ran : goal.returns-in-0-clause-ran
returns-in-0-clause-ran g c = (
  _,
  inl (
    c.in_ok-next_token.field-0,
    refl,
    sym c.as_char.ensures ∙ c.in-0.is,
    passed_of c.in_ok-next_token.ensures.passes,
    refl,
  ),
  refl,
)

pub loop-token-init : goal.loop-token-init
loop-token-init g c =
    begun_one g.I.Stream.seen_as g.I.Token.AsChar.code g.I.Stream.reading _ _
    c.in_ok-next_token.field-0 _ c.as_char.ensures
    (omega (arith, c.as_char.ensures, c.in-1-to-9), omega (arith, c.as_char.ensures, c.in-1-to-9))
    c.in_ok-next_token.ensures.passes

pub returns-in-None-2-clause-ran : goal.returns-in-None-2-clause-ran
returns-in-None-2-clause-ran g c =
    begun_ended g.I.Stream.seen_as g.I.Token.AsChar.code g.I.Stream.reading _ _ _ _ _
    c.loop-token.invariant c.in-None.ensures.passes.0 c.in-None.ensures.passes.1
    c.is_partial.ensures c.if-is_partial.false

pub returns-then-digit-gt9-clause-ran : goal.returns-then-digit-gt9-clause-ran
returns-then-digit-gt9-clause-ran g c =
    begun_stopped g.I.Stream.seen_as g.I.Token.AsChar.code g.I.Stream.reading _ _ _ _ _
    c.in-Some.token _ _ c.loop-token.invariant c.in-Some.ensures.passes
    c.as_char-in-Some.ensures (λ is. absurd (omega (
      arith,
      is,
      c.digit_of-digit.ensures.value is,
      c.if-digit-gt9.true,
    ))) c.checkpoint-behind.ensures c.reset.ensures

pub loop-token-smaller : goal.loop-token-smaller
loop-token-smaller g c =
    passes_fewer g.I.Stream.seen_as g.I.Token.AsChar.code g.I.Stream.reading _ _ _
    c.in-Some.ensures.passes

pub loop-token-preserved : goal.loop-token-preserved
loop-token-preserved g c =
    let is = c.digit_of-digit.ensures.digit c.if-digit-gt9.false in
    begun_more g.I.Stream.seen_as g.I.Token.AsChar.code g.I.Stream.reading _ _ _ _
    c.in-Some.token _ _ c.loop-token.invariant c.as_char-in-Some.ensures is
    (c.from.ensures ∙ c.digit_of-digit.ensures.value is) c.in-Some.ensures.passes
