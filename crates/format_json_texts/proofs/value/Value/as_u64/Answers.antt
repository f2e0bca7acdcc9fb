use Rattle.std.proofs.Common.{inl, rules}
use Rattle.format_json_texts.proofs.value.Value.as_u64.Goals as goal

pub returns-in-Number : goal.returns-in-Number
returns-in-Number g c = inl (_, c.in-Number.is, search rules)
