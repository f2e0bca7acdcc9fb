use Rattle.format_json_extents.proofs.Pointing.{no_whole_number}
use Rattle.format_json_extents.proofs.Scanning.{no_match_is_not_whole}
use Rattle.format_json_extents.proofs.pointer.item.index_of.Goals as goal

pub returns-in-None : goal.returns-in-None
returns-in-None c = λ is. absurd (no_match_is_not_whole c.in-None.ensures.none is)

pub returns-else-is_empty : goal.returns-else-is_empty
returns-else-is_empty c = λ is.
    absurd (no_whole_number c.in-Some.ensures.found c.is_empty.ensures c.if-is_empty.false is)
