use Rattle.std.proofs.Common.{refl}
use Rattle.format_json_extents.proofs.Matching.{never_starts_with_no_byte, no_match_of_second}
use Rattle.format_json_extents.proofs.Matching.{rest_after_byte}
use Rattle.format_json_extents.proofs.Scanning.{if_none_of_true}
use Rattle.format_json_extents.proofs.unescape.write_string.Goals as goal

pub returns-in_err-count-clause-none : goal.returns-in_err-count-clause-none
returns-in_err-count-clause-none c =
    if_none_of_true _ c.from_residual-in_err-count.result
    (no_match_of_second never_starts_with_no_byte (rest_after_byte c.in_ok-inside.ensures refl)
    c.in_err-count.ensures)
