-- Loop invariant: the nodes in the object so far are no such name.
use Rattle.std.proofs.Common.{◌-◌}
use Rattle.format_json_extents.specs.Names.{name_text}
use Rattle.exported.specs.JsonNodes.{PassesOthers}
use Rattle.exported.proofs.json.lookup.find_member.Given as goal

abbrev pub invariant-members : goal.invariant-members
invariant-members l = PassesOthers (name_text l.token l.name) l.text l.nodes l.index l.after l.at

abbrev pub decreases-members : goal.decreases-members
decreases-members l = l.after - l.at
