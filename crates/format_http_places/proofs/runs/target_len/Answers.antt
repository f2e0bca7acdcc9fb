use Rattle.std.proofs.Common.{◌≡◌, arith, subst}
use Rattle.format_http.specs.Heads.Bytes.{IsVisible}
use Rattle.format_http_places.specs.Runs.{FirstAre}
use Rattle.format_http_places.proofs.Counts.{first_ends, first_more, first_one}
use Rattle.format_http_places.proofs.runs.target_len.Goals as goal

pub returns-then-run-lt-LANES : goal.returns-then-run-lt-LANES
returns-then-run-lt-LANES c = first_ends IsVisible c.args.bytes.now c.behind.result.now c.lanes.at _
    c.lanes.invariant c.behind.ensures c.target_run-run.ensures c.if-run-lt-LANES.true

pub lanes-preserved : goal.lanes-preserved
lanes-preserved c =
    let run : c.target_run-run.result ≡ 16 = omega (arith, c.target_run-run.ensures.0) in
    first_more IsVisible c.args.bytes.now c.behind.result.now c.lanes.at 16 c.lanes.invariant
    c.behind.ensures
    (subst (λ n. FirstAre IsVisible c.behind.result.now n) run c.target_run-run.ensures.1)

pub loop-at-preserved : goal.loop-at-preserved
loop-at-preserved c = first_one IsVisible c.args.bytes.now c.loop-at.at c.loop-at.invariant
    (omega arith) (c.is_visible.ensures.0 c.if-is_visible.true)
