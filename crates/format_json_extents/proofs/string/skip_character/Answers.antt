use Rattle.format_json_extents.proofs.Matching.{rest_after_left}
use Rattle.format_json_extents.proofs.Scalars.{no_pair}
use Rattle.format_json_extents.proofs.Scanning.{second_scans}
use Rattle.format_json_extents.specs.Texts.{NoByte}
use Rattle.format_json_extents.proofs.string.skip_character.Goals as goal

pub returns-in-Some : goal.returns-in-Some
returns-in-Some c = rest_after_left c.in-Some.ensures (no_pair c.in-Some.ensures.stands)

pub returns-in-None : goal.returns-in-None
returns-in-None c =
    second_scans _ _ NoByte _ c.skip_pair.result c.in-None.ensures c.skip_pair.ensures
