use Rattle.std.proofs.Common.{arith}
use Rattle.format_json_extents.proofs.Matching.{never_starts_with_no_byte, rest_after_byte}
use Rattle.format_json_extents.proofs.Matching.{rest_after_then}
use Rattle.format_json_extents.proofs.number.skip_some_digits.Goals as goal

pub returns-then-first-le57 : goal.returns-then-first-le57
returns-then-first-le57 c =
    rest_after_then never_starts_with_no_byte
    (rest_after_byte c.in_ok-first.ensures.cases.0 (omega arith, omega arith))
    c.skip_digits.ensures
