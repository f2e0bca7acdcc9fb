use Rattle.std.proofs.Common.{arith, inl, refl, sym, ◌∙◌}
use Rattle.winnow_core.specs.Leaves.{passed_of}
use Rattle.winnow_numbers.proofs.NumeralLemmas.{leading, leading_short, more_digits, only_digits}
use Rattle.winnow_numbers.proofs.ascii.numeral.pass_digits.Goals as goal

pub returns-in-1-to-9-clause-ran : goal.returns-in-1-to-9-clause-ran
returns-in-1-to-9-clause-ran g c =
    leading_short g.I.Stream.seen_as g.I.Token.AsChar.code g.I.Stream.reading g.E.HasKind.form
    c.args.zero (g.I.Stream.view c.args.input.now) (g.I.Stream.view c.next_token.new.self)
    (g.I.Stream.view c.digit0.new.input) _ c.in-Some.token
    (omega (arith, c.as_char.ensures, c.in-1-to-9), omega (arith, c.as_char.ensures, c.in-1-to-9))
    c.in-Some.ensures.passes
    (only_digits g.I.Stream.seen_as g.I.Token.AsChar.code g.I.Stream.reading g.E.HasKind.form
    _ _ _ _ _ c.in-Err.ensures.ran)

pub returns-in-0-clause-ran : goal.returns-in-0-clause-ran
returns-in-0-clause-ran g c = (
  _,
  inl (
    c.in-Some.token,
    c.if-zero.true,
    sym c.as_char.ensures ∙ c.in-0.is,
    passed_of c.in-Some.ensures.passes,
    refl,
  ),
)

pub returns-in-Ok-clause-ran : goal.returns-in-Ok-clause-ran
returns-in-Ok-clause-ran g c =
    leading g.I.Stream.seen_as g.I.Token.AsChar.code g.I.Stream.reading g.E.HasKind.form
    c.args.zero (g.I.Stream.view c.args.input.now) (g.I.Stream.view c.next_token.new.self)
    (g.I.Stream.view c.digit0.new.input) c.in-Some.token
    (omega (arith, c.as_char.ensures, c.in-1-to-9), omega (arith, c.as_char.ensures, c.in-1-to-9))
    c.in-Some.ensures.passes
    (more_digits g.I.Stream.seen_as g.I.Token.AsChar.code g.I.Stream.reading g.E.HasKind.form
    _ _ _ _ _ c.in-Ok.ensures.ran)
