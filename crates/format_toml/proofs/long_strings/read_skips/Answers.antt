use Rattle.winnow_grammar.specs.Read.{reads_by}
use Rattle.format_toml.proofs.long_strings.read_skips.Goals as goal

pub returns : goal.returns
returns g c = reads_by c.read.ensures.reads (rw (c.repeat.ensures.occurrences))
