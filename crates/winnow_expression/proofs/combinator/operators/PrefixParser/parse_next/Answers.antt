use Rattle.std.proofs.Common.{rules, inl, refl}
use Rattle.streams.specs.Input.{is_end_of_refl}
use Rattle.winnow_expression.proofs.combinator.operators.PrefixParser.parse_next.Goals as goal

pub returns-in-Ok-clause-ran : goal.returns-in-Ok-clause-ran
returns-in-Ok-clause-ran g c = (
  is_end_of_refl g.I.Stream.reading _,
  refl,
  refl,
  inl (_, (search rules depth 1, c.in-Ok.ensures.cases), refl),
)
