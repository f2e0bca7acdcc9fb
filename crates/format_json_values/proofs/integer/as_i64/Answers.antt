use Rattle.std.proofs.Common.{inl, inr, refl, rules}
use Rattle.format_json_values.proofs.integer.as_i64.Goals as goal

pub returns-in-Number : goal.returns-in-Number
returns-in-Number g c = inl (_, c.in-Number.is, search rules)

pub returns-in_default : goal.returns-in_default
returns-in_default g c = inr (c.in_default.not-Number, refl)
