use Rattle.format_json_extents.proofs.Runs.{lanes_go_on, lanes_stop, lanes_within}
use Rattle.format_json_extents.proofs.Runs.{run_ends_before_other, run_ends_with_bytes}
use Rattle.format_json_extents.proofs.Runs.{run_extends_by_one}
use Rattle.format_json_extents.proofs.Scanning.{refuted_by_test}
use Rattle.format_json_extents.specs.Value.{IsWhitespaceByte}
use Rattle.format_json_extents.proofs.tokens.skip_long_whitespace.Goals as goal

pub skip_many-requires : goal.skip_many-requires
skip_many-requires c = lanes_within IsWhitespaceByte _ _ c.in-Some.ensures

pub returns-in-Some : goal.returns-in-Some
returns-in-Some c =
    rw c.skip_many.ensures (lanes_stop IsWhitespaceByte _ c.lanes.invariant c.in-Some.ensures)

pub lanes-preserved : goal.lanes-preserved
lanes-preserved c =
    rw c.skip_many-rest.ensures (lanes_go_on IsWhitespaceByte c.lanes.invariant c.in-None.ensures)

pub last-preserved : goal.last-preserved
last-preserved c =
    run_extends_by_one IsWhitespaceByte c.last.invariant c.in-Some-split_first.ensures.cases.0
    (c.is_space.ensures.0 c.if-is_space.true)

pub returns-else-is_space : goal.returns-else-is_space
returns-else-is_space c =
    run_ends_before_other c.last.invariant c.in-Some-split_first.ensures.cases.0
    (refuted_by_test c.is_space.ensures c.if-is_space.false)

pub returns-in-None-split_first : goal.returns-in-None-split_first
returns-in-None-split_first c =
    run_ends_with_bytes c.last.invariant c.in-None-split_first.ensures.cases
