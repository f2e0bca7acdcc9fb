use Rattle.format_toml_nodes.proofs.Whole.{puts_all}
use Rattle.format_toml_nodes.proofs.nodes.put_all.Goals as goal

pub returns : goal.returns
returns g c =
    puts_all c.args.slots.now c.args.text.now c.args.nodes.now c.put_values-end.result
    c.put_values-end.new.buffer c.put_values-end.new.nodes c.put_links.result
    c.put_links.new.buffer c.put_links.new.nodes c.put_values-end.ensures c.put_links.ensures
