use Rattle.format_json_extents.proofs.Runs.{empty_run_matches, run_after, run_ends_before_other}
use Rattle.format_json_extents.proofs.Runs.{run_ends_with_bytes}
use Rattle.format_json_extents.proofs.Scanning.{refuted_by_test}
use Rattle.format_json_extents.specs.Value.{IsWhitespaceByte}
use Rattle.format_json_extents.proofs.tokens.skip_more_whitespace.Goals as goal

pub returns-then-is_space : goal.returns-then-is_space
returns-then-is_space c =
    run_after c.in-Some.ensures.cases.0 (c.is_space.ensures.0 c.if-is_space.true)
    c.skip_long_whitespace.ensures

pub returns-else-is_space : goal.returns-else-is_space
returns-else-is_space c =
    run_ends_before_other (empty_run_matches IsWhitespaceByte) c.in-Some.ensures.cases.0
    (refuted_by_test c.is_space.ensures c.if-is_space.false)

pub returns-in-None : goal.returns-in-None
returns-in-None c = run_ends_with_bytes (empty_run_matches IsWhitespaceByte) c.in-None.ensures.cases
