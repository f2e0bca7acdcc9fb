use Rattle.std.proofs.Common.{arith, ap, refl, sym, ◌∙◌}
use Rattle.std.specs.Prelude.{◌∷◌, length}
use Rattle.format_toml_tree.specs.Dates.{Finds, FoundResult, TwoDigits}
use Rattle.format_toml_tree.proofs.DateParts.{same_first, same_others}
use Rattle.format_toml_tree.proofs.dates.two_digits.Goals as goal

pub returns-in_err-tens : goal.returns-in_err-tens
unfolding Finds TwoDigits
returns-in_err-tens c = rw c.from_residual.ensures (λ n rest (x, y, a, b, p, q, e, is).
    absurd (omega (arith, ap (λ l. length l) e, c.in_err-tens.ensures.cases)))

pub returns-in_err-ones : goal.returns-in_err-ones
unfolding Finds TwoDigits
returns-in_err-ones c = rw c.from_residual-in_err-ones.ensures (λ n rest (x, y, a, b, p, q, e, is).
    let behind = same_others (sym c.in_ok-tens.ensures.cases.0 ∙ e) in
    absurd (omega (arith, ap (λ l. length l) behind, c.in_err-ones.ensures.cases)))

pub returns-in_err-tens-2 : goal.returns-in_err-tens-2
unfolding Finds TwoDigits FoundResult
returns-in_err-tens-2 c = rw c.from_residual-in_err-tens-2.ensures
    (λ n rest (x, y, a, b, (less, is), q, e, _). c.in_err-tens-2.ensures x
    (less, same_first (sym c.in_ok-tens.ensures.cases.0 ∙ e) ∙ is))

pub returns-in_err-ones-2 : goal.returns-in_err-ones-2
unfolding Finds TwoDigits FoundResult
returns-in_err-ones-2 c = rw c.from_residual-in_err-ones-2.ensures
    (λ n rest (x, y, a, b, p, (less, is), e, _). c.in_err-ones-2.ensures y (
      less,
      same_first (sym c.in_ok-ones.ensures.cases.0
          ∙ same_others (sym c.in_ok-tens.ensures.cases.0 ∙ e)) ∙ is,
    ))

pub overflow_mul-result : goal.overflow_mul-result
unfolding FoundResult
overflow_mul-result c = let is = c.in_ok-tens-2.ensures in omega (arith, is.0)

pub overflow_add-result : goal.overflow_add-result
unfolding FoundResult
overflow_add-result c =
    let tens = c.in_ok-tens-2.ensures in
    let ones = c.in_ok-ones-2.ensures in omega (arith, tens.0, ones.0)

pub returns : goal.returns
unfolding Finds TwoDigits FoundResult
returns c = (
  _,
  _,
  _,
  _,
  c.in_ok-tens-2.ensures,
  c.in_ok-ones-2.ensures,
  c.in_ok-tens.ensures.cases.0 ∙ ap (λ l. c.in_ok-tens.tens.now ∷ l) c.in_ok-ones.ensures.cases.0,
  refl,
)
