use Rattle.format_toml.proofs.keys.read_names.Goals as goal

pub returns : goal.returns
returns g c = c.read_joined.ensures
