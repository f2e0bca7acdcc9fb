use Rattle.format_parts.proofs.turns.read_two_of.Goals as goal

pub returns-clause-ran : goal.returns-clause-ran
returns-clause-ran g c = (_, c.read.ensures.ran)

pub returns-clause-reads : goal.returns-clause-reads
returns-clause-reads g c = c.read.ensures.reads

pub returns-clause-spared : goal.returns-clause-spared
returns-clause-spared g c first second = c.read.ensures.spared (first, second)
