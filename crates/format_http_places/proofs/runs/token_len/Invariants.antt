use Rattle.std.proofs.Common.{◌-◌, length}
use Rattle.format_http.specs.Heads.Bytes.{IsTokenByte}
use Rattle.format_http_places.specs.Runs.{FirstAre}
use Rattle.format_http_places.proofs.runs.token_len.Given as goal

abbrev pub invariant-loop-at : goal.invariant-loop-at
invariant-loop-at l = FirstAre IsTokenByte l.bytes l.at

abbrev pub decreases-loop-at : goal.decreases-loop-at
decreases-loop-at l = length l.bytes - l.at
