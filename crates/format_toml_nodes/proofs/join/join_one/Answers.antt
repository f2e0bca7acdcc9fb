use Rattle.std.proofs.Common.{refl}
use Rattle.std.proofs.lemmas.Option.{slice_get-get_or}
use Rattle.format_toml_nodes.proofs.Joins.{joins_none, joins_one}
use Rattle.format_toml_nodes.proofs.join.join_one.Goals as goal

pub returns-then-parent-nodes : goal.returns-then-parent-nodes
returns-then-parent-nodes c =
    joins_one c.args.number _ _ c.args.nodes.now c.put_next.new.nodes c.put_first.new.nodes _ _
    (slice_get-get_or c.args.nodes.now c.args.number _ c.requires) refl
    (slice_get-get_or c.args.nodes.now _ _ c.if-parent-nodes.true) refl
    c.put_next.ensures c.put_first.ensures

pub returns-else-parent-nodes : goal.returns-else-parent-nodes
returns-else-parent-nodes c =
    joins_none c.args.number c.args.nodes.now _
    (slice_get-get_or c.args.nodes.now c.args.number _ c.requires)
    c.if-parent-nodes.false
