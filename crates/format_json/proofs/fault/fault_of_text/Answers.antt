use Rattle.std.proofs.Common.{inl}
use Rattle.format_json.proofs.fault.fault_of_text.Goals as goal

pub returns-in-Ok : goal.returns-in-Ok
returns-in-Ok g c = c.fault_at.ensures c.in-Ok.ensures (inl c.requires)
