use Rattle.format_json_extents.proofs.Matching.{byte_starts, no_byte_match, none_empty}
use Rattle.format_json_extents.proofs.Scanning.{refuted_by_test}
use Rattle.format_json_extents.proofs.Walks.{lead_bare, lead_marked}
use Rattle.format_json_extents.proofs.walk.skip_separator.Goals as goal

pub returns-then-is_mark : goal.returns-then-is_mark
returns-then-is_mark c =
    lead_marked c.skip_whitespace-ahead.ensures c.in-Some.ensures.cases.0
    (c.is_mark.ensures.0 c.if-is_mark.true) c.skip_whitespace.ensures

pub returns-else-is_mark : goal.returns-else-is_mark
returns-else-is_mark c =
    lead_bare c.skip_whitespace-ahead.ensures
    (no_byte_match c.in-Some.ensures.cases.0 (refuted_by_test c.is_mark.ensures c.if-is_mark.false))

pub returns-in-None : goal.returns-in-None
returns-in-None c =
    lead_bare c.skip_whitespace-ahead.ensures (none_empty byte_starts c.in-None.ensures.cases)
