use Rattle.std.proofs.Common.{inl, refl}
use Rattle.streams.specs.Input.{is_end_of_refl}
use Rattle.winnow_expression.proofs.combinator.operators.InfixParser.parse_next.Goals as goal

pub returns-in-Some-clause-ran : goal.returns-in-Some-clause-ran
returns-in-Some-clause-ran g c =
    (is_end_of_refl g.I.Stream.reading _, refl, refl, inl (_, c.in-Some.ensures, refl))
