use Rattle.std.proofs.Common.{arith}
use Rattle.format_json_extents.proofs.Matching.{never_starts_with_no_byte, no_byte_match}
use Rattle.format_json_extents.proofs.Matching.{no_match_of_first, rest_after_byte, rest_after_left}
use Rattle.format_json_extents.proofs.Scanning.{second_scans, then_scans}
use Rattle.format_json_extents.specs.Texts.{NoByte}
use Rattle.format_json_extents.proofs.string.skip_escape.Goals as goal

pub returns-then-first-eq117 : goal.returns-then-first-eq117
returns-then-first-eq117 c =
    let e = c.in_ok-first.ensures.cases.0 in
    let is = c.if-first-eq117.true in
    second_scans _ _ NoByte _ c.skip_character.result (no_byte_match e (λ b. grind (arith, b, is)))
    (then_scans NoByte c.skip_character.result never_starts_with_no_byte (rest_after_byte e is)
    c.skip_character.ensures)

pub returns-then-is_escaped : goal.returns-then-is_escaped
returns-then-is_escaped c =
    let e = c.in_ok-first.ensures.cases.0 in
    rest_after_left (rest_after_byte e (c.is_escaped.ensures.0 c.if-is_escaped.true))
    (no_match_of_first (no_byte_match e c.if-first-eq117.false))
