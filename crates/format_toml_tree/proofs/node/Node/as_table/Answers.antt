use Rattle.format_toml_tree.specs.Rules.{IsTable}
use Rattle.format_toml_tree.specs.Kinds.{itself_none, itself_some}
use Rattle.format_toml_tree.proofs.node.Node.as_table.Goals as goal

pub returns-then-is_table : goal.returns-then-is_table
returns-then-is_table g c = itself_some IsTable _ _ c.if-is_table.true c.is_table.ensures

pub returns-else-is_table : goal.returns-else-is_table
returns-else-is_table g c = itself_none IsTable _ _ c.if-is_table.false c.is_table.ensures
