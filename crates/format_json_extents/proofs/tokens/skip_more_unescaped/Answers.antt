use Rattle.format_json_extents.proofs.Runs.{lanes_go_on, lanes_stop, lanes_within}
use Rattle.format_json_extents.proofs.Runs.{run_ends_before_other, run_ends_with_bytes}
use Rattle.format_json_extents.proofs.Runs.{run_extends_by_one}
use Rattle.format_json_extents.proofs.Scanning.{refuted_by_test}
use Rattle.format_json_extents.specs.Strings.{IsUnescaped}
use Rattle.format_json_extents.proofs.tokens.skip_more_unescaped.Goals as goal

pub skip_many-requires : goal.skip_many-requires
skip_many-requires c = lanes_within IsUnescaped _ _ c.in-Some.ensures

pub returns-in-Some : goal.returns-in-Some
returns-in-Some c =
    rw c.skip_many.ensures (lanes_stop IsUnescaped _ c.lanes.invariant c.in-Some.ensures)

pub lanes-preserved : goal.lanes-preserved
lanes-preserved c =
    rw c.skip_many-rest.ensures (lanes_go_on IsUnescaped c.lanes.invariant c.in-None.ensures)

pub last-preserved : goal.last-preserved
last-preserved c =
    run_extends_by_one IsUnescaped c.last.invariant c.in-Some-split_first.ensures.cases.0
    (c.is_unescaped.ensures.0 c.if-is_unescaped.true)

pub returns-else-is_unescaped : goal.returns-else-is_unescaped
returns-else-is_unescaped c =
    run_ends_before_other c.last.invariant c.in-Some-split_first.ensures.cases.0
    (refuted_by_test c.is_unescaped.ensures c.if-is_unescaped.false)

pub returns-in-None-split_first : goal.returns-in-None-split_first
returns-in-None-split_first c =
    run_ends_with_bytes c.last.invariant c.in-None-split_first.ensures.cases
