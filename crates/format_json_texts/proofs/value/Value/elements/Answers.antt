use Rattle.std.proofs.Common.{inl, rules}
use Rattle.format_json_texts.proofs.value.Value.elements.Goals as goal

pub returns-in-Array : goal.returns-in-Array
returns-in-Array g c = inl (_, c.in-Array.is, search rules)
