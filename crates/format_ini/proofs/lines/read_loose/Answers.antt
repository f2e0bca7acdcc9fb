use Rattle.format_ini.proofs.Heads.{loose_none}
use Rattle.format_ini.proofs.lines.read_loose.Goals as goal

pub returns-in-None : goal.returns-in-None
returns-in-None c = loose_none _ _ c.requires c.around.ensures.behind c.in-None.ensures
