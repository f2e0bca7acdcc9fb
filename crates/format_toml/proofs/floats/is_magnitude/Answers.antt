use Rattle.std.proofs.Common.{inl, inr}
use Rattle.std.proofs.lemmas.Bool.{both_ways}
use Rattle.format_toml.specs.Floats.{AreDigits}
use Rattle.format_toml.proofs.FloatCutsLemmas.{digits_no_sign, magnitude_none, magnitude_some}
use Rattle.format_toml.proofs.FloatCutsLemmas.{signs_off}
use Rattle.format_toml.proofs.floats.is_magnitude.Goals as goal

pub returns-then-is_whole : goal.returns-then-is_whole
returns-then-is_whole c =
    let (there, back) = magnitude_some c.args.text.now (c.in-Some.number, c.in-Some.power)
    c.in-Some.ensures in
    let (behind, before) = signs_off AreDigits c.in-Some.power.now c.without_sign.result.now
    c.without_sign.ensures digits_no_sign in (
      λ t. back (
        before (c.are_digits.ensures.0 c.if-are_digits.true),
        inl (c.is_whole.ensures.0 t),
      ),
      λ x. c.if-is_whole.true,
    )

pub returns-else-is_whole : goal.returns-else-is_whole
returns-else-is_whole c =
    let (there, back) = magnitude_some c.args.text.now (c.in-Some.number, c.in-Some.power)
    c.in-Some.ensures in
    let (behind, before) = signs_off AreDigits c.in-Some.power.now c.without_sign.result.now
    c.without_sign.ensures digits_no_sign in (
      λ t. back (
        before (c.are_digits.ensures.0 c.if-are_digits.true),
        inr (c.is_decimal.ensures.0 t),
      ),
      λ x. elim (there x).1 [
        | inl w ↦ absurd (both_ways _ c.if-is_whole.false (c.is_whole.ensures.1 w))
        | inr d ↦ c.is_decimal.ensures.1 d
      ],
    )

pub returns-else-are_digits : goal.returns-else-are_digits
returns-else-are_digits c =
    let (there, back) = magnitude_some c.args.text.now (c.in-Some.number, c.in-Some.power)
    c.in-Some.ensures in
    let (behind, before) = signs_off AreDigits c.in-Some.power.now c.without_sign.result.now
    c.without_sign.ensures digits_no_sign in (
      λ t. absurd (both_ways _ c.if-are_digits.false t),
      λ x. c.are_digits.ensures.1 (behind (there x).0),
    )

pub returns-in-None : goal.returns-in-None
returns-in-None c =
    let (there, back) = magnitude_none c.args.text.now c.in-None.ensures in (
      λ t. back (c.is_decimal-in-None.ensures.0 t),
      λ x. c.is_decimal-in-None.ensures.1 (there x),
    )
