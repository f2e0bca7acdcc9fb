use Rattle.format_json_values.proofs.escapes.read_escape.Goals as goal

pub returns-clause-reads : goal.returns-clause-reads
returns-clause-reads c = c.read_escape_of.ensures.reads
