use Rattle.std.proofs.Common.{arith, subst, sym}
use Rattle.std.specs.Prelude.{◌≤◌, ℕ}
use Rattle.format_toml_tree.specs.Dates.{Finds}
use Rattle.format_toml_tree.proofs.DateParts.{date_joins, four_one, marked_one, none_first}
use Rattle.format_toml_tree.proofs.DateParts.{none_fits, none_second, turn_joins, turn_one}
use Rattle.format_toml_tree.proofs.dates.date.Goals as goal
use Rattle.format_toml_tree.proofs.dates.date.Goals.{then-day-eq0-via-then-day-eq0}
use Rattle.format_toml_tree.proofs.dates.date.Goals.{then-day-eq0-via-else-day-eq0+then-day-days_in}

pub returns-in_err-year : goal.returns-in_err-year
returns-in_err-year c = rw c.from_residual.ensures
    (none_first date_joins _ (none_first (turn_joins 45) _ c.in_err-year.ensures))

pub returns-in_err-month : goal.returns-in_err-month
unfolding Finds
returns-in_err-month c = rw c.from_residual-in_err-month.ensures (none_first date_joins _
    (none_second (turn_joins 45) four_one c.in_ok-year.ensures c.in_err-month.ensures))

pub returns-in_err-day : goal.returns-in_err-day
unfolding Finds
returns-in_err-day c = rw c.from_residual-in_err-day.ensures (none_second date_joins
    (turn_one 45 four_one) (_, c.in_ok-year.ensures, c.in_ok-month.ensures) c.in_err-day.ensures)

pub returns-then-day-eq0 : goal.returns-then-day-eq0
unfolding Finds
returns-then-day-eq0 c =
    none_fits date_joins (turn_one 45 four_one) (_, c.in_ok-year.ensures, c.in_ok-month.ensures)
    (marked_one 45) c.in_ok-day.ensures (λ within. elim c.then-day-eq0.branch [
      | then-day-eq0-via-then-day-eq0 w ↦ omega (arith, within.0, w.if-day-eq0.true)
      | then-day-eq0-via-else-day-eq0+then-day-days_in w ↦
          let P : ℕ → Type 0 = λ n. c.in_ok-day.day ≤ n in
          omega (arith, subst P (sym w.days_in.ensures) within.1, w.if-day-days_in.true)
    ])

pub returns : goal.returns
unfolding Finds
returns c =
    let P : ℕ → Type 0 = λ n. c.in_ok-day.day ≤ n in
    date_joins.back _ (_, _) _ _ _ (_, c.in_ok-year.ensures, c.in_ok-month.ensures)
    c.in_ok-day.ensures (
      omega (arith, c.if-day-eq0.false),
      subst P c.days_in.ensures (omega (arith, c.if-day-days_in.false)),
    )
