use Rattle.std.proofs.Common.{subst}
use Rattle.std.specs.Prelude.{Bool}
use Rattle.format_json_extents.specs.Members.{IsSearchOf}
use Rattle.format_json_extents.specs.Names.{name_text}
use Rattle.format_json_extents.specs.declared.members.Search.{Search}
use Rattle.exported.specs.JsonMember.{is_set}
use Rattle.exported.proofs.json.member.exported_json_member.Goals as goal

pub returns-in-Invalid-clause-refused : goal.returns-in-Invalid-clause-refused
returns-in-Invalid-clause-refused c same =
    let rest = c.find_member-found.result.1.now in
    let level = c.args.max_depth in
    let bytes = c.args.bytes.now in
    let Flag : Bool → Type 0 =
    λ flag. IsSearchOf c.find_member-found.result.0 level (name_text flag c.args.name.now) bytes
    rest in
    let Is : Search → Type 0 =
    λ found. IsSearchOf found level (name_text (is_set c.args.is_token) c.args.name.now) bytes
    rest in
    let told = subst Flag c.is_set.ensures c.find_member-found.ensures.search in
    (rest, subst Is c.in-Invalid.is told)
