use Rattle.winnow_grammar.specs.Read.{reads_by}
use Rattle.format_toml.proofs.escapes.read_short_code.Goals as goal

pub returns : goal.returns
returns c = reads_by c.read.ensures.reads (rw c.preceded.ensures.ignored)
