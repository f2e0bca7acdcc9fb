use Rattle.std.proofs.Common.{◌∙◌, ap, arith, length, length-take}
use Rattle.std.proofs.lemmas.Option.{slice_get_within}
use Rattle.format_toml_nodes.proofs.Whole.{behind, written}
use Rattle.format_toml_nodes.proofs.nodes.write_nodes.Goals as goal

pub join-requires : goal.join-requires
join-requires g c j it at =
    let put = c.put_all.ensures in
    let within = slice_get_within c.put_all.new.nodes j it at in
    put.apart j it (omega (
      arith,
      within,
      put.same.1,
      length-take c.args.size.nodes c.args.nodes.now,
      c.if-nodes-size.false,
      c.requires.0,
      ap (λ l. length l) c.slots.ensures,
    )) at

pub returns-clause-written : goal.returns-clause-written
returns-clause-written g c given holds =
    written c.slots.result.now c.args.tree.now.slots.items c.slots.ensures c.args.size.nodes
    c.args.size.text c.args.text.now c.put_all.new.text c.args.nodes.now c.put_all.new.nodes
    c.join.new.nodes c.put_all.result c.requires.0 c.requires.1 c.if-text-size.false
    c.if-nodes-size.false c.put_all.ensures c.join.ensures given holds

pub returns-clause-behind : goal.returns-clause-behind
returns-clause-behind g c = (
  behind c.args.size.text c.args.text.now c.put_all.new.text c.if-text-size.false
      c.put_all.ensures.same.0,
  behind c.args.size.nodes c.args.nodes.now c.join.new.nodes c.if-nodes-size.false
      (c.join.ensures.stays.same ∙ c.put_all.ensures.same.1),
)
