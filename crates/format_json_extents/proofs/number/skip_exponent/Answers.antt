use Rattle.std.proofs.Common.{rules}
use Rattle.format_json_extents.proofs.Matching.{never_starts_with_no_byte, rest_after_byte}
use Rattle.format_json_extents.proofs.Scalars.{sign_bars}
use Rattle.format_json_extents.proofs.Scanning.{then_scans}
use Rattle.format_json_extents.specs.Number.{IsDigit, IsExponentLetter}
use Rattle.format_json_extents.proofs.number.skip_exponent.Goals as goal

pub returns-then-first-eq69 : goal.returns-then-first-eq69
returns-then-first-eq69 c =
    let is : IsExponentLetter c.in_ok-first.first.now = search rules in
    then_scans IsDigit c.skip_some_digits.result never_starts_with_no_byte
    (rest_after_byte c.in_ok-first.ensures.cases.0 is)
    (then_scans IsDigit c.skip_some_digits.result sign_bars c.skip_sign.ensures
    c.skip_some_digits.ensures)
