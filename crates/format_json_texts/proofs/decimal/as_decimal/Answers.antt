use Rattle.std.proofs.Common.{◌∙◌, ◌<◌, ◌^◌, FitsSigned, length, of_z, rules, subst, sym}
use Rattle.std.proofs.Common.{Bool, to_z}
use Rattle.std.proofs.lemmas.Int.{to_z-of_z}
use Rattle.std.specs.Int.{w128, w32}
use Rattle.format_json_texts.proofs.Scaled.{is_zero, moved_is, not_fitting, not_wide}
use Rattle.format_json_texts.proofs.Scaled.{reduced_decimal, too_long}
use Rattle.format_json_texts.specs.Decimals.{IsDecimal}
use Rattle.format_json_texts.specs.NumberParts.{IsExponent}
use Rattle.format_json_texts.proofs.decimal.as_decimal.Goals as goal

pub returns-in_default : goal.returns-in_default
returns-in_default c = λ n is.
    let (_, split) = c.skip_sign-negative.ensures n is in
    too_long n (c.in_default.ensures _ n is split)

pub returns-then-read-eq0 : goal.returns-then-read-eq0
returns-then-read-eq0 c = λ n is.
    let (_, split) = c.skip_sign-negative.ensures n is in
    let (_, _, small) = c.in-Some.ensures _ n is split in
    is_zero n c.in-Some.read.digits c.in-Some.read.zeros c.if-read-eq0.true small

pub returns-in_default-power_of : goal.returns-in_default-power_of
returns-in_default-power_of c = λ n is.
    let (_, split) = c.skip_sign-negative.ensures n is in
    let (behind, places, small) = c.in-Some.ensures _ n is split in
    let digits : c.in-Some.read.digits < 2 ^ 64 = search rules in
    let zeros : c.in-Some.read.zeros < 2 ^ 64 = search rules in
    let few : length n.fraction < 2 ^ 64 = subst (λ k. k < 2 ^ 64) places (search rules) in
    let power = subst (λ t. IsExponent t n.power) (sym behind) is.is_exponent in
    not_fitting n c.in-Some.read.digits c.in-Some.read.zeros c.if-read-eq0.false digits small
    (not_wide n.power c.in-Some.read.zeros (length n.fraction) zeros few
    (c.in_default-power_of.ensures n.power power))

pub returns-in-Some-shifted : goal.returns-in-Some-shifted
returns-in-Some-shifted c = λ n is.
    let (signed, split) = c.skip_sign-negative.ensures n is in
    let (behind, places, small) = c.in-Some.ensures _ n is split in
    let power = subst (λ t. IsExponent t n.power) (sym behind) is.is_exponent in
    let (wide, said) = c.in-Some-power_of.ensures n.power power in
    let (fits, exponent) = c.in-Some-shifted.ensures in
    let whole = to_z-of_z w128 c.in-Some-power_of.power
    (subst (FitsSigned w128) (sym said) wide) in
    let moved = moved_is (to_z w128 (of_z w128 c.in-Some-power_of.power)) n.power
    c.in-Some.read.zeros c.in-Some.read.places (length n.fraction) (whole ∙ said) places in
    let kept = to_z-of_z w32 c.in-Some-shifted.exponent
    (subst (FitsSigned w32) (sym exponent) fits) in
    let P : Bool → Type 0 = λ b. IsDecimal n b c.in-Some.read.digits
    (to_z w32 (of_z w32 c.in-Some-shifted.exponent)) in
    subst P (sym signed)
    (reduced_decimal n c.in-Some.read.digits c.in-Some.read.zeros _ c.if-read-eq0.false small
    (kept ∙ exponent ∙ moved))

pub returns-in-None : goal.returns-in-None
returns-in-None c = λ n is.
    let (_, split) = c.skip_sign-negative.ensures n is in
    let (behind, places, small) = c.in-Some.ensures _ n is split in
    let digits : c.in-Some.read.digits < 2 ^ 64 = search rules in
    let power = subst (λ t. IsExponent t n.power) (sym behind) is.is_exponent in
    let (wide, said) = c.in-Some-power_of.ensures n.power power in
    let whole = to_z-of_z w128 c.in-Some-power_of.power
    (subst (FitsSigned w128) (sym said) wide) in
    let moved = moved_is (to_z w128 (of_z w128 c.in-Some-power_of.power)) n.power
    c.in-Some.read.zeros c.in-Some.read.places (length n.fraction) (whole ∙ said) places in
    not_fitting n c.in-Some.read.digits c.in-Some.read.zeros c.if-read-eq0.false digits small
    (λ fits. c.in-None.ensures (subst (FitsSigned w32) (sym moved) fits))
