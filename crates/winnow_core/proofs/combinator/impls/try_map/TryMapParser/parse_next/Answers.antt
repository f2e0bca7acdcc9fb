use Rattle.std.proofs.Common.{rules, refl, inl, inr}
use Rattle.parser_definitions.specs.TryMap.{tries}
use Rattle.winnow_core.specs.Called.{reset_ran, settled_ran}
use Rattle.winnow_core.proofs.combinator.impls.try_map.TryMapParser.parse_next.Goals as goal

pub returns-in-Ok-clause-ran : goal.returns-in-Ok-clause-ran
returns-in-Ok-clause-ran g c =
    settled_ran g.I.Stream.reading (tries (goal.G-step g)) g.F.Parser.does g.E.HasKind.form _ _ _ _
    c.in_ok-output.output c.in_ok-output.ensures.ran _
    (inl (_, _, search rules depth 1, refl))

pub returns-clause-ran : goal.returns-clause-ran
returns-clause-ran g c =
    reset_ran g.I.Stream.reading (tries (goal.G-step g)) g.F.Parser.does g.E.HasKind.form _ _ _ _
    c.in_ok-output.output c.in_ok-output.ensures.ran _ _ _
    (inr (
      c.in-Err.error,
      _,
      _,
      c.in-Err.ensures,
      c.from_external_error.ensures.given,
      refl,
    )) refl (search rules depth 1)
