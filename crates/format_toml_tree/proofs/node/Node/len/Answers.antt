use Rattle.format_toml_tree.specs.Access.{length_is}
use Rattle.format_toml_tree.proofs.node.Node.len.Goals as goal

pub returns : goal.returns
returns g c = length_is c.args.self.now c.below.result.now c.below.ensures
