use Rattle.std.proofs.Common.{refl}
use Rattle.format_json_extents.proofs.Matching.{never_starts_with_no_byte, no_match_of_second}
use Rattle.format_json_extents.proofs.Matching.{rest_after_byte}
use Rattle.format_json_extents.proofs.Scanning.{match_on}
use Rattle.format_json_extents.proofs.names.compare.Goals as goal

pub returns : goal.returns
returns c =
    match_on _ _ _ _ c.compare_tail.result
    (no_match_of_second never_starts_with_no_byte (rest_after_byte c.in_ok-skip_byte.ensures refl))
    (λ r it. (_, c.in_ok-skip_byte.ensures, it)) c.compare_tail.ensures
