use Rattle.exported.proofs.IniLookups.{tells_lookup}
use Rattle.exported.proofs.ini.lookup.exported_ini_get.Goals as goal

pub returns-clause-told : goal.returns-clause-told
returns-clause-told c = tells_lookup _ _ _ _ _ _ _ _ _ _ c.dialect_of.ensures c.state_of.ensures
    c.find_pair.ensures c.told_of-code.ensures.writes
