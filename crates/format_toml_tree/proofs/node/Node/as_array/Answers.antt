use Rattle.format_toml_tree.specs.Rules.{IsArray}
use Rattle.format_toml_tree.specs.Kinds.{itself_none, itself_some}
use Rattle.format_toml_tree.proofs.node.Node.as_array.Goals as goal

pub returns-then-is_array : goal.returns-then-is_array
returns-then-is_array g c = itself_some IsArray _ _ c.if-is_array.true c.is_array.ensures

pub returns-else-is_array : goal.returns-else-is_array
returns-else-is_array g c = itself_none IsArray _ _ c.if-is_array.false c.is_array.ensures
