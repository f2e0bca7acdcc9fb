use Rattle.std.proofs.Common.{◌-◌, length}
use Rattle.format_http.specs.Heads.Bytes.{IsValueByte}
use Rattle.format_http_places.specs.Runs.{FirstAre}
use Rattle.format_http_places.proofs.runs.value_len.Given as goal

abbrev pub invariant-loop-at : goal.invariant-loop-at
invariant-loop-at l = FirstAre IsValueByte l.bytes l.at

abbrev pub decreases-loop-at : goal.decreases-loop-at
decreases-loop-at l = length l.bytes - l.at

abbrev pub invariant-lanes : goal.invariant-lanes
invariant-lanes l = FirstAre IsValueByte l.bytes l.at

abbrev pub decreases-lanes : goal.decreases-lanes
decreases-lanes l = length l.bytes - l.at
