use Rattle.winnow_grammar.specs.Read.{reads_by}
use Rattle.format_toml.proofs.lines.read_table_item.Goals as goal

pub returns : goal.returns
returns g c = reads_by c.read.ensures.reads (rw c.preceded.ensures.ignored)
