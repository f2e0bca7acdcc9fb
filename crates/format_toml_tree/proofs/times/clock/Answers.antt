use Rattle.std.proofs.Common.{arith}
use Rattle.format_toml_tree.specs.Dates.{Finds}
use Rattle.format_toml_tree.proofs.DateParts.{clock_joins, marked_one, none_first, none_fits}
use Rattle.format_toml_tree.proofs.DateParts.{none_second, turn_joins, turn_one, two_one}
use Rattle.format_toml_tree.proofs.times.clock.Goals as goal
use Rattle.format_toml_tree.proofs.times.clock.Goals.{then-hour-gt23-via-then-hour-gt23}
use Rattle.format_toml_tree.proofs.times.clock.Goals.{
  then-hour-gt23-via-else-hour-gt23+then-minute-gt59,
}
use Rattle.format_toml_tree.proofs.times.clock.Goals.{
  then-hour-gt23-via-else-hour-gt23+else-minute-gt59+then-second-gt60,
}

pub returns-in_err-hour : goal.returns-in_err-hour
returns-in_err-hour c = rw c.from_residual.ensures
    (none_first clock_joins _ (none_first (turn_joins 58) _ c.in_err-hour.ensures))

pub returns-in_err-minute : goal.returns-in_err-minute
unfolding Finds
returns-in_err-minute c = rw c.from_residual-in_err-minute.ensures (none_first clock_joins _
    (none_second (turn_joins 58) two_one c.in_ok-hour.ensures c.in_err-minute.ensures))

pub returns-in_err-second : goal.returns-in_err-second
unfolding Finds
returns-in_err-second c = rw c.from_residual-in_err-second.ensures (none_second clock_joins
    (turn_one 58 two_one) (_, c.in_ok-hour.ensures, c.in_ok-minute.ensures)
    c.in_err-second.ensures)

pub returns-then-hour-gt23 : goal.returns-then-hour-gt23
unfolding Finds
returns-then-hour-gt23 c =
    none_fits clock_joins (turn_one 58 two_one) (_, c.in_ok-hour.ensures, c.in_ok-minute.ensures)
    (marked_one 58) c.in_ok-second.ensures (λ within. elim c.then-hour-gt23.branch [
      | then-hour-gt23-via-then-hour-gt23 w ↦ omega (arith, within.0, w.if-hour-gt23.true)
      | then-hour-gt23-via-else-hour-gt23+then-minute-gt59 w ↦
          omega (arith, within.1, w.if-minute-gt59.true)
      | then-hour-gt23-via-else-hour-gt23+else-minute-gt59+then-second-gt60 w ↦
          omega (arith, within.2, w.if-second-gt60.true)
    ])

pub returns : goal.returns
unfolding Finds
returns c =
    clock_joins.back _ (_, _) _ _ _ (_, c.in_ok-hour.ensures, c.in_ok-minute.ensures)
    c.in_ok-second.ensures (
      omega (arith, c.if-hour-gt23.false),
      omega (arith, c.if-minute-gt59.false),
      omega (arith, c.if-second-gt60.false),
    )
