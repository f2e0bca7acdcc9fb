use Rattle.format_json_extents.proofs.NodeWriting.{scalar_writes}
use Rattle.format_json_extents.proofs.nodes.put_scalar.Goals as goal

pub returns-clause-nodes : goal.returns-clause-nodes
returns-clause-nodes c =
    scalar_writes c.args.size c.args.index c.requires c.kind_of_scalar.result
    c.kind_of_scalar.ensures c.in_ok-rest.ensures c.put.ensures
