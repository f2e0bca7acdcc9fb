use Rattle.format_json_extents.proofs.Runs.{run_ends_before_other, run_ends_with_bytes}
use Rattle.format_json_extents.proofs.Runs.{run_extends_by_one}
use Rattle.format_json_extents.proofs.Scanning.{refuted_by_test}
use Rattle.format_json_extents.specs.Number.{IsDigit}
use Rattle.format_json_extents.proofs.tokens.skip_digits.Goals as goal

pub digits-preserved : goal.digits-preserved
digits-preserved c =
    run_extends_by_one IsDigit c.digits.invariant c.in-Some.ensures.cases.0
    (c.is_digit.ensures.0 c.if-is_digit.true)

pub returns-else-is_digit : goal.returns-else-is_digit
returns-else-is_digit c =
    run_ends_before_other c.digits.invariant c.in-Some.ensures.cases.0
    (refuted_by_test c.is_digit.ensures c.if-is_digit.false)

pub returns-in-None : goal.returns-in-None
returns-in-None c = run_ends_with_bytes c.digits.invariant c.in-None.ensures.cases
