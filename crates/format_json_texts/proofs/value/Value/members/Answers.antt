use Rattle.std.proofs.Common.{inl, rules}
use Rattle.format_json_texts.proofs.value.Value.members.Goals as goal

pub returns-in-Object : goal.returns-in-Object
returns-in-Object g c = inl (_, c.in-Object.is, search rules)
