-- Loop invariant: the members before here have other names.
use Rattle.std.proofs.Common.{◌≤◌, length}
use Rattle.format_json_extents.specs.Members.{PassesMembers}
use Rattle.format_json_extents.specs.Names.{name_text}
use Rattle.format_json_extents.proofs.members.find_inside.Given as goal

abbrev pub invariant-members : goal.invariant-members
invariant-members l = record {
  passes : PassesMembers l.level (name_text l.token l.name) l.inside l.left;
  within : length l.left ≤ length l.inside;
}

abbrev pub decreases-members : goal.decreases-members
decreases-members l = length l.left
