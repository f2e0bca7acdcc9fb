use Rattle.std.proofs.Common.{◌≡◌, take}
use Rattle.std.specs.Str.Parse.{digits_value}
use Rattle.format_toml_nodes.specs.DateTimes.{nine}
use Rattle.format_toml_nodes.proofs.date_times.nanosecond_of.Given as goal

-- the number of the digits so far
abbrev pub invariant-loop-place : goal.invariant-loop-place
invariant-loop-place l = l.sum ≡ digits_value 10 (take l.place (nine l.digits))
