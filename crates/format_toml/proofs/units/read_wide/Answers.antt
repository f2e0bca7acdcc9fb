use Rattle.format_toml.proofs.units.read_wide.Goals as goal

pub returns : goal.returns
returns c = c.read_two_of.ensures.reads
