use Rattle.format_toml.proofs.starts.past_newline.Goals as goal

pub returns : goal.returns
returns c =
    rw (c.alt.ensures, c.preceded.ensures.ignored, c.preceded.ensures.parser) at c.past.ensures
