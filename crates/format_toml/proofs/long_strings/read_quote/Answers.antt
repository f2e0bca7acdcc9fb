use Rattle.format_toml.proofs.long_strings.read_quote.Goals as goal

pub returns : goal.returns
returns c = c.read_quote_of.ensures
