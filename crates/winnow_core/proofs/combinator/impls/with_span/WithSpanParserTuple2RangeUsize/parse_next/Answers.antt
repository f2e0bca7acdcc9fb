use Rattle.std.proofs.Common.{rules, refl}
use Rattle.winnow_core.proofs.combinator.impls.with_span.WithSpanParserTuple2RangeUsize.parse_next.Goals as goal

pub returns-clause-ran : goal.returns-clause-ran
returns-clause-ran g c =
    let ran = c.in_ok-output.ensures.ran in
    (ran.0, ran.1, ran.2, (_, ran.3, (_, (refl, search rules depth 1), refl)))
