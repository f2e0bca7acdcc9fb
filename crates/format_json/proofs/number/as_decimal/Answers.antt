use Rattle.std.proofs.Common.{rules}
use Rattle.format_json.proofs.number.as_decimal.Goals as goal

pub returns-in-Number : goal.returns-in-Number
returns-in-Number g c = (_, c.in-Number.is, search rules)
