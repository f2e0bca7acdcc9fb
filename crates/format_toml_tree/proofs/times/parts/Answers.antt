use Rattle.std.proofs.Common.{refl}
use Rattle.format_toml_tree.specs.Dates.{Finds}
use Rattle.format_toml_tree.proofs.DateTimeParts.{time_first, time_none, time_some}
use Rattle.format_toml_tree.proofs.times.parts.Goals as goal

pub returns-in_err-clock : goal.returns-in_err-clock
returns-in_err-clock c = rw c.from_residual.ensures (time_first _ c.in_err-clock.ensures)

pub returns-in_err-offset : goal.returns-in_err-offset
unfolding Finds
returns-in_err-offset c = rw c.from_residual-in_err-offset.ensures
    (time_none _ _ _ _ _ c.in_ok-clock.ensures c.fraction.ensures c.in_err-offset.ensures)

pub returns : goal.returns
unfolding Finds
returns c =
    time_some _ _ _ _ _ c.in_ok-clock.ensures c.fraction.ensures _ _ refl
    c.in_ok-offset.ensures
