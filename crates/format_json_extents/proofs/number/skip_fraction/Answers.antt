use Rattle.std.proofs.Common.{refl}
use Rattle.format_json_extents.proofs.Matching.{never_starts_with_no_byte, rest_after_byte}
use Rattle.format_json_extents.proofs.Scanning.{then_scans}
use Rattle.format_json_extents.specs.Number.{IsDigit}
use Rattle.format_json_extents.proofs.number.skip_fraction.Goals as goal

pub returns : goal.returns
returns c =
    then_scans IsDigit c.skip_some_digits.result never_starts_with_no_byte
    (rest_after_byte c.in_ok-digits.ensures refl)
    c.skip_some_digits.ensures
