use Rattle.format_json_values.proofs.units.read_units.Goals as goal

pub returns-clause-reads : goal.returns-clause-reads
returns-clause-reads c = c.read_units_of.ensures.reads
