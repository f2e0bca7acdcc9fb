use Rattle.exported.proofs.IniEntries.{tells}
use Rattle.exported.proofs.ini.exported_ini_next.Goals as goal

pub returns-clause-told : goal.returns-clause-told
returns-clause-told c = tells _ _ _ _ _ _ _ _ _ _ c.dialect_of.ensures c.reading_of-reading.ensures
    c.state_of.ensures c.next_placed-found.ensures c.told_of-code.ensures.writes
