use Rattle.std.proofs.Common.{rules, refl, inl}
use Rattle.parser_definitions.specs.TryMap.{clones}
use Rattle.winnow_core.specs.Called.{settled_ran}
use Rattle.winnow_core.proofs.combinator.impls.value.ValueParser.parse_next.Goals as goal

pub returns-in-Ok-clause-ran : goal.returns-in-Ok-clause-ran
returns-in-Ok-clause-ran g c =
    settled_ran g.I.Stream.reading (clones g.O2.Clone.is_clone g.O2.Clone.is_infallible)
    g.F.Parser.does g.E.HasKind.form _ _ _ _ c.in_ok-_output._output c.in_ok-_output.ensures.ran _
    (inl (_, search rules depth 1, refl))
