use Rattle.format_toml_tree.specs.Nodes.{answers_none, answers_value}
use Rattle.format_toml_tree.proofs.node.Node.value.Goals as goal

pub returns-in-Value : goal.returns-in-Value
returns-in-Value g c =
    answers_value c.args.self.now c.in_ok-slot.slot.now c.in_ok-slot.ensures c.in-Value.value
    c.in-Value.is

pub returns-in_default : goal.returns-in_default
returns-in_default g c =
    answers_none c.args.self.now c.in_ok-slot.slot.now c.in_ok-slot.ensures c.in_default.not-Value
