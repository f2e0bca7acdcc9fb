use Rattle.format_toml.proofs.keys.read_double.Goals as goal

pub returns : goal.returns
returns g c = c.read_between.ensures.reads
