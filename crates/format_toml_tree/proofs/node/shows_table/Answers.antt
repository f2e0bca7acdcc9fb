use Rattle.format_toml_tree.specs.Kinds.{table_shown}
use Rattle.format_toml_tree.proofs.node.shows_table.Goals as goal

pub returns-in-Table : goal.returns-in-Table
returns-in-Table g c = table_shown _ _ c.in-Value.is _ c.in-Table.is
