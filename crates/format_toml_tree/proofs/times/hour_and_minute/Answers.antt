use Rattle.std.proofs.Common.{arith}
use Rattle.format_toml_tree.specs.Dates.{Finds}
use Rattle.format_toml_tree.proofs.DateParts.{marked_one, minute_joins, none_first, none_fits}
use Rattle.format_toml_tree.proofs.DateParts.{none_second, two_one}
use Rattle.format_toml_tree.proofs.times.hour_and_minute.Goals as goal
use Rattle.format_toml_tree.proofs.times.hour_and_minute.Goals.{then-hour-gt23-via-then-hour-gt23}
use Rattle.format_toml_tree.proofs.times.hour_and_minute.Goals.{
  then-hour-gt23-via-else-hour-gt23+then-minute-gt59,
}

pub returns-in_err-hour : goal.returns-in_err-hour
returns-in_err-hour c =
    rw c.from_residual.ensures (none_first minute_joins _ c.in_err-hour.ensures)

pub returns-in_err-minute : goal.returns-in_err-minute
unfolding Finds
returns-in_err-minute c = rw c.from_residual-in_err-minute.ensures
    (none_second minute_joins two_one c.in_ok-hour.ensures c.in_err-minute.ensures)

pub returns-then-hour-gt23 : goal.returns-then-hour-gt23
unfolding Finds
returns-then-hour-gt23 c =
    none_fits minute_joins two_one c.in_ok-hour.ensures (marked_one 58) c.in_ok-minute.ensures
    (λ within. elim c.then-hour-gt23.branch [
      | then-hour-gt23-via-then-hour-gt23 w ↦ omega (arith, within.0, w.if-hour-gt23.true)
      | then-hour-gt23-via-else-hour-gt23+then-minute-gt59 w ↦
          omega (arith, within.1, w.if-minute-gt59.true)
    ])

pub returns : goal.returns
unfolding Finds
returns c =
    minute_joins.back _ _ _ _ _ c.in_ok-hour.ensures c.in_ok-minute.ensures
    (omega (arith, c.if-hour-gt23.false), omega (arith, c.if-minute-gt59.false))
