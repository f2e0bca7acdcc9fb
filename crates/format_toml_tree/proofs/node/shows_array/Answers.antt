use Rattle.format_toml_tree.specs.Kinds.{array_shown}
use Rattle.format_toml_tree.proofs.node.shows_array.Goals as goal

pub returns-in-Array : goal.returns-in-Array
returns-in-Array g c = array_shown _ _ c.in-Value.is _ c.in-Array.is
