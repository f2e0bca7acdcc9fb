use Rattle.format_parts.specs.Hexadecimal.{IsNumberOf}
use Rattle.winnow_grammar.specs.Read.{reads_meaning, reads_no_meaning}
use Rattle.format_parts.proofs.hexadecimal.read_unit.Goals as goal

pub returns-in-Ok-clause-reads : goal.returns-in-Ok-clause-reads
returns-in-Ok-clause-reads c =
    reads_meaning IsNumberOf c.in-Ok.ensures.reads c.unit_of.ensures

pub returns-in-Err-clause-reads : goal.returns-in-Err-clause-reads
returns-in-Err-clause-reads c = reads_no_meaning IsNumberOf c.in-Err.ensures.reads
