use Rattle.std.proofs.Common.{◌≡◌, arith, subst}
use Rattle.format_http.specs.Heads.Bytes.{IsValueByte}
use Rattle.format_http_places.specs.Runs.{FirstAre}
use Rattle.format_http_places.proofs.Counts.{first_ends, first_more}
use Rattle.format_http_places.proofs.runs.value_len.Goals as goal

pub returns-then-run-lt-LANES : goal.returns-then-run-lt-LANES
returns-then-run-lt-LANES c = first_ends IsValueByte c.args.bytes.now c.behind.result.now
    c.lanes.at _
    c.lanes.invariant c.behind.ensures c.value_run-run.ensures c.if-run-lt-LANES.true

pub lanes-preserved : goal.lanes-preserved
lanes-preserved c =
    let run : c.value_run-run.result ≡ 16 = omega (arith, c.value_run-run.ensures.0) in
    first_more IsValueByte c.args.bytes.now c.behind.result.now c.lanes.at 16 c.lanes.invariant
    c.behind.ensures
    (subst (λ n. FirstAre IsValueByte c.behind.result.now n) run c.value_run-run.ensures.1)
