use Rattle.std.specs.Prelude.{length}
use Rattle.format_toml_tree.specs.Rules.{IsTable}
use Rattle.format_toml_tree.specs.Kinds.{tells_at}
use Rattle.format_toml_tree.proofs.node.Node.is_table.Goals as goal

pub returns-in-Some : goal.returns-in-Some
returns-in-Some g c =
    tells_at IsTable c.args.self.now c.shows_table.result c.in-Some.slot c.in-Some.ensures
    (c.shows_table.ensures (length c.in-Some.slot.now.elements.items))
