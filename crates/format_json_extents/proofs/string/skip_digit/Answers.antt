use Rattle.format_json_extents.proofs.Matching.{rest_after_byte}
use Rattle.format_json_extents.proofs.string.skip_digit.Goals as goal

pub returns-then-is_hex_digit : goal.returns-then-is_hex_digit
returns-then-is_hex_digit c =
    rest_after_byte c.in_ok-first.ensures.cases.0
    (c.is_hex_digit.ensures.0 c.if-is_hex_digit.true)
