use Rattle.std.proofs.Common.{refl}
use Rattle.format_toml_tree.specs.Dates.{FindsTime, FoundResult, IsAlone, TimeText}
use Rattle.format_toml_tree.proofs.Points.{on_err, time_point}
use Rattle.format_toml_tree.proofs.DateTimeParts.{offset_or_none, timed_digits}
use Rattle.format_toml_tree.proofs.date_times.time_alone.Goals as goal

pub returns-in_default-clause-found : goal.returns-in_default-clause-found
unfolding FindsTime FoundResult IsAlone TimeText
returns-in_default-clause-found g c = λ d (time, e, (clock, digits, t, x)).
    c.in_default.ensures clock digits _ x

pub time_of-requires : goal.time_of-requires
unfolding FindsTime
time_of-requires g c = timed_digits _ _ _ _ c.in-Some.ensures

pub returns-in-Some-offset-clause-found : goal.returns-in-Some-offset-clause-found
unfolding FindsTime FoundResult IsAlone TimeText
returns-in-Some-offset-clause-found g c = λ d (time, e, (clock, digits, t, x)).
    offset_or_none _ _ _ _ _ _ (rw c.in-Some-offset.is at c.in-Some.ensures) x

pub returns-in_ok-time-in-None-clause-found : goal.returns-in_ok-time-in-None-clause-found
unfolding FindsTime FoundResult IsAlone TimeText
returns-in_ok-time-in-None-clause-found g c =
    (_, refl, (_, _, c.in_ok-time-in-None.ensures.time, rw c.in-None.is at c.in-Some.ensures))

pub returns-in_err-time-in-None-clause-full : goal.returns-in_err-time-in-None-clause-full
unfolding FindsTime
returns-in_err-time-in-None-clause-full g c =
    on_err _ (time_point _ _ _ _ c.in-Some.ensures c.in_err-time-in-None.ensures.full)
