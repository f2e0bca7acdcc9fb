use Rattle.std.proofs.Common.{refl}
use Rattle.format_http.proofs.BodiesLemmas.Steps.{quotes_end, quotes_escape, quotes_plain}
use Rattle.format_http.proofs.bodies.coding.step_quotes.Goals as goal

pub returns-then-is_quoted : goal.returns-then-is_quoted
returns-then-is_quoted c bytes = quotes_plain _ bytes (c.if-is_quoted.ensures.0 refl)

pub returns-in-34 : goal.returns-in-34
returns-in-34 c bytes = quotes_end c.args.byte bytes c.in-34.is

pub returns-in-92 : goal.returns-in-92
returns-in-92 c bytes = quotes_escape c.args.byte bytes c.in-92.is
