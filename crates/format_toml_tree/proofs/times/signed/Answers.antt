use Rattle.std.proofs.lemmas.List.{nil_from_length}
use Rattle.std.specs.Int.{w16}
use Rattle.std.proofs.Common.{arith, inl, inr, ◌∙◌}
use Rattle.std.specs.Prelude.{[]}
use Rattle.std.proofs.lemmas.Bool.Decides.{nat_tests}
use Rattle.std.proofs.lemmas.Int.{to_z-of_z}
use Rattle.format_toml_tree.specs.Dates.{Finds, HourAndMinute}
use Rattle.format_toml_tree.proofs.DateParts.{joins_one, marked_one, minute_joins, two_one}
use Rattle.format_toml_tree.proofs.DateTimeParts.{signed_none, signed_some}
use Rattle.format_toml_tree.proofs.times.signed.Goals as goal

pub returns-in_err-hour : goal.returns-in_err-hour
unfolding Finds
returns-in_err-hour c = rw c.from_residual.ensures
    (signed_none _ _ c.requires (λ h m x is. c.in_err-hour.ensures (h, m) _ x))

pub returns-then-not-is_empty : goal.returns-then-not-is_empty
unfolding Finds
returns-then-not-is_empty c =
    signed_none _ _ c.requires (λ h m x is.
    let left = ((joins_one minute_joins two_one (marked_one 58)).one _ _ (h, m) _ []
    c.in_ok-hour.ensures x).1 in
    absurd (grind (arith, nat_tests, left, c.if-not-is_empty.ensures)))

pub east-requires-clause-hours : goal.east-requires-clause-hours
unfolding Finds HourAndMinute
east-requires-clause-hours c = c.in_ok-hour.ensures.3

pub east-requires-clause-minutes : goal.east-requires-clause-minutes
unfolding Finds HourAndMinute
east-requires-clause-minutes c = c.in_ok-hour.ensures.4

pub west-requires-clause-hours : goal.west-requires-clause-hours
unfolding Finds HourAndMinute
west-requires-clause-hours c = c.in_ok-hour.ensures.3

pub west-requires-clause-minutes : goal.west-requires-clause-minutes
unfolding Finds HourAndMinute
west-requires-clause-minutes c = c.in_ok-hour.ensures.4

pub returns-then-sign-eq43 : goal.returns-then-sign-eq43
unfolding Finds
returns-then-sign-eq43 c =
    signed_some _ _ _ _ _ _ c.in_ok-hour.ensures
    (nil_from_length _ (grind (arith, nat_tests, c.if-not-is_empty.ensures))) (inl (
      c.if-sign-eq43.true,
      to_z-of_z w16 c.east.result c.east.ensures.fits ∙ c.east.ensures.minutes,
    ))

pub returns-then-sign-eq45 : goal.returns-then-sign-eq45
unfolding Finds
returns-then-sign-eq45 c =
    signed_some _ _ _ _ _ _ c.in_ok-hour.ensures
    (nil_from_length _ (grind (arith, nat_tests, c.if-not-is_empty.ensures))) (inr (
      c.if-sign-eq45.true,
      to_z-of_z w16 c.west.result c.west.ensures.fits ∙ c.west.ensures.minutes,
    ))

pub returns : goal.returns
returns c = signed_none _ _ c.requires (λ h m x is. omega arith)
