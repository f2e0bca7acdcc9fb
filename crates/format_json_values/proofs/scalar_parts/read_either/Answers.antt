use Rattle.winnow_grammar.specs.Read.{reads_by}
use Rattle.format_json_values.proofs.scalar_parts.read_either.Goals as goal

pub returns-clause-reads : goal.returns-clause-reads
returns-clause-reads g c = reads_by c.read.ensures.reads (rw c.alt.ensures)

pub returns-clause-spared : goal.returns-clause-spared
returns-clause-spared g c first second = c.read.ensures.spared (rw c.alt.ensures (first, second))
