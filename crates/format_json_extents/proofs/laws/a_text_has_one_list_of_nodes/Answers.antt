use Rattle.format_json_extents.proofs.NodeOne.{nodes_one}
use Rattle.format_json_extents.proofs.laws.a_text_has_one_list_of_nodes.Goals as goal

pub returns : goal.returns
returns c = nodes_one
