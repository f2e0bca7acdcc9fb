use Rattle.std.proofs.Common.{inr, refl}
use Rattle.format_json_extents.proofs.Walks.{brace_none}
use Rattle.format_json_extents.proofs.members.find_member.Goals as goal

pub returns-in-None-clause-search : goal.returns-in-None-clause-search
returns-in-None-clause-search c =
    inr (refl, refl, brace_none c.skip_separator.ensures c.in-None.ensures)
