use Rattle.winnow_grammar.specs.Read.{reads_by}
use Rattle.format_toml.proofs.strings.read_basic.Goals as goal

pub returns : goal.returns
returns g c = reads_by c.read_between.ensures.reads (rw c.repeat-characters.ensures.occurrences)
