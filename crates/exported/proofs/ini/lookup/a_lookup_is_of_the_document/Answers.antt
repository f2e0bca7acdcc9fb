use Rattle.exported.proofs.IniLookups.{missing, no_texts, refuses}
use Rattle.exported.proofs.ini.lookup.a_lookup_is_of_the_document.Goals as goal

pub returns-clause-missing : goal.returns-clause-missing
returns-clause-missing c dialect bytes name key state out tells =
    missing dialect bytes name key state out tells

pub returns-clause-refuses : goal.returns-clause-refuses
returns-clause-refuses c dialect bytes name key state out tells =
    refuses dialect bytes name key state out tells

pub returns-clause-text : goal.returns-clause-text
returns-clause-text c dialect bytes name key state out tells =
    no_texts dialect bytes name key state out tells
