use Rattle.std.proofs.Common.{rules, Err, refl, inl, inr}
use Rattle.parser_definitions.specs.Verify.{gives_or_not}
use Rattle.streams.specs.Kind.{backtrack}
use Rattle.winnow_core.specs.Called.{reset_ran, settled_ran}
use Rattle.winnow_core.proofs.combinator.impls.verify_map.VerifyMapParser.parse_next.Goals as goal

pub returns-in-Some-clause-ran : goal.returns-in-Some-clause-ran
returns-in-Some-clause-ran g c =
    settled_ran g.I.Stream.reading (gives_or_not (goal.G-step g)) g.F.Parser.does
    g.E.HasKind.form _ _
    _ _ c.in_ok-output.output c.in_ok-output.ensures.ran _ (inl (_, _, c.in-Some.ensures, refl))

pub returns-clause-ran : goal.returns-clause-ran
returns-clause-ran g c =
    reset_ran g.I.Stream.reading (gives_or_not (goal.G-step g)) g.F.Parser.does g.E.HasKind.form _ _
    _ _ c.in_ok-output.output c.in_ok-output.ensures.ran backtrack
    (Err (g.E.HasKind.kind c.from_input.result)) _ (inr (_, c.in-None.ensures, refl))
    (search rules depth 1) (search rules depth 1)
