use Rattle.std.proofs.Common.{sym, ◌∙◌}
use Rattle.format_toml_tree.specs.Nodes.{finds_below, finds_none}
use Rattle.format_toml_tree.proofs.node.Node.get.Goals as goal

pub returns-in-Some : goal.returns-in-Some
returns-in-Some g c =
    finds_below c.args.self.now c.in_ok-slot.slot.now c.in_ok-slot.ensures c.args.name.now
    c.in-Some.place (sym c.get.ensures.value ∙ sym c.copied.ensures ∙ c.in-Some.is)

pub returns-in-None : goal.returns-in-None
returns-in-None g c =
    finds_none c.args.self.now c.in_ok-slot.slot.now c.in_ok-slot.ensures c.args.name.now
    (sym c.get.ensures.value ∙ sym c.copied.ensures ∙ c.in-None.is)
