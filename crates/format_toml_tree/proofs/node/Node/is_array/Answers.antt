use Rattle.std.specs.Prelude.{length}
use Rattle.format_toml_tree.specs.Rules.{IsArray}
use Rattle.format_toml_tree.specs.Kinds.{tells_at}
use Rattle.format_toml_tree.proofs.node.Node.is_array.Goals as goal

pub returns-in-Some : goal.returns-in-Some
returns-in-Some g c =
    tells_at IsArray c.args.self.now c.shows_array.result c.in-Some.slot c.in-Some.ensures
    (c.shows_array.ensures (length c.in-Some.slot.now.elements.items))
