use Rattle.std.proofs.Common.{arith, ap}
use Rattle.std.specs.Char.{digit_value}
use Rattle.format_http.proofs.BodiesLemmas.Numbers.{most_value}
use Rattle.format_http.proofs.bodies.numbers.value_of.Goals as goal

pub returns-in-None : goal.returns-in-None
returns-in-None c = omega (
  arith,
  most_value c.args.byte,
  c.in-None.ensures.value,
  ap digit_value c.from.ensures,
)
