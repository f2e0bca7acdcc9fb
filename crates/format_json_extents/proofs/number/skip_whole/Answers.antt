use Rattle.std.proofs.Common.{arith}
use Rattle.format_json_extents.proofs.Matching.{never_starts_with_no_byte, no_byte_match}
use Rattle.format_json_extents.proofs.Matching.{no_match_of_first, rest_after_byte, rest_after_left}
use Rattle.format_json_extents.proofs.Matching.{rest_after_right, rest_after_then, rest_after_wider}
use Rattle.format_json_extents.proofs.number.skip_whole.Goals as goal

pub returns-then-first-eq48 : goal.returns-then-first-eq48
returns-then-first-eq48 c =
    let e = c.in_ok-first.ensures.cases.0 in
    rest_after_left (rest_after_wider (λ b n. absurd n) (rest_after_byte e c.if-first-eq48.true))
    (no_match_of_first (no_byte_match e (λ is. omega (arith, is, c.if-first-eq48.true))))

pub returns-then-first-le57 : goal.returns-then-first-le57
returns-then-first-le57 c =
    let e = c.in_ok-first.ensures.cases.0 in
    rest_after_right (no_byte_match e (λ is. omega (arith, is)))
    (rest_after_then never_starts_with_no_byte (rest_after_byte e (omega arith, omega arith))
    c.skip_digits.ensures)
