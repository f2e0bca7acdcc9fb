use Rattle.std.proofs.lemmas.Result.{IfOk-weaker}
use Rattle.format_toml_tree.specs.Dates.{Finds}
use Rattle.format_toml_tree.proofs.Points.{date_point, on_err_more}
use Rattle.format_toml_tree.proofs.DateTimeParts.{dated, undated}
use Rattle.format_toml_tree.proofs.date_times.date_time.Goals as goal

pub returns-in-Some-clause-found : goal.returns-in-Some-clause-found
unfolding Finds
returns-in-Some-clause-found g c =
    IfOk-weaker _ _ _ (λ o. dated _ _ _ _ _ c.in-Some.ensures) c.after_date.ensures.found

pub returns-in-None-clause-found : goal.returns-in-None-clause-found
returns-in-None-clause-found g c =
    IfOk-weaker _ _ _ (λ o. undated _ _ _ c.in-None.ensures) c.time_alone.ensures.found

pub returns-in-Some-clause-full : goal.returns-in-Some-clause-full
unfolding Finds
returns-in-Some-clause-full g c =
    on_err_more _ c.after_date.ensures.full (λ has. date_point _ _ _ c.in-Some.ensures has)
