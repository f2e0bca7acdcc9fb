use Rattle.exported.proofs.IniEntries.{no_texts, refuses, whole}
use Rattle.exported.proofs.ini.entries_in_turn_are_of_the_document.Goals as goal

pub returns-clause-whole : goal.returns-clause-whole
returns-clause-whole c dialect bytes outs said state next out turns last =
    whole dialect bytes outs said state next out turns last

pub returns-clause-refuses : goal.returns-clause-refuses
returns-clause-refuses c dialect bytes outs said state next out turns last =
    refuses dialect bytes outs said state next out turns last

pub returns-clause-text : goal.returns-clause-text
returns-clause-text c dialect bytes outs said state next out turns last =
    no_texts dialect bytes outs said state next out turns last
