use Rattle.format_toml.proofs.long_strings.read_any_literal.Goals as goal

pub returns : goal.returns
returns g c = c.read_either_of.ensures
