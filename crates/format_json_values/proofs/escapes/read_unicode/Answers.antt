use Rattle.format_json_values.proofs.escapes.read_unicode.Goals as goal

pub returns-clause-reads : goal.returns-clause-reads
returns-clause-reads c = c.read_either.ensures.reads
