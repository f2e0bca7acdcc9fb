use Rattle.format_json_extents.proofs.Scalars.{tail_ahead, tail_ends}
use Rattle.format_json_extents.proofs.Scanning.{same_matches_refl, same_matches_rest, same_scans}
use Rattle.format_json_extents.specs.Texts.{NoByte}
use Rattle.format_json_extents.proofs.string.skip_string_tail.Goals as goal

pub returns-in-Some : goal.returns-in-Some
returns-in-Some c =
    same_matches_rest (tail_ahead same_matches_refl c.skip_unescaped-ahead.ensures)
    (tail_ends c.in-Some.ensures)

pub returns-in-None : goal.returns-in-None
returns-in-None c =
    same_scans NoByte c.skip_pieces.result
    (tail_ahead same_matches_refl c.skip_unescaped-ahead.ensures)
    c.skip_pieces.ensures
