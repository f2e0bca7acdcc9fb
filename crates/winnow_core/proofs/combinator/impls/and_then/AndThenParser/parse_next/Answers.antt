use Rattle.std.proofs.Common.{rules, Ok, Err, refl}
use Rattle.parser_definitions.specs.TryMap.{within}
use Rattle.winnow_core.specs.Called.{reset_ran, settled_ran, within_ran}
use Rattle.winnow_core.proofs.combinator.impls.and_then.AndThenParser.parse_next.Goals as goal

pub returns-in-Ok-clause-ran : goal.returns-in-Ok-clause-ran
returns-in-Ok-clause-ran g c =
    settled_ran g.I.Stream.reading (within g.O.Stream.view g.G.Parser.does) g.F.Parser.does
    g.E.HasKind.form _ _ _ _ _ c.in_ok-output.ensures.ran _
    (within_ran g.O.Stream.reading g.O.Stream.view g.G.Parser.does g.E.HasKind.form _
    c.in_ok-output.output _
    (Ok c.in-Ok.output) _ _ (search rules depth 1) c.in-Ok.ensures.ran)

pub returns-clause-ran : goal.returns-clause-ran
returns-clause-ran g c =
    reset_ran g.I.Stream.reading (within g.O.Stream.view g.G.Parser.does) g.F.Parser.does
    g.E.HasKind.form _ _ _ _ _ c.in_ok-output.ensures.ran _ _ _
    (within_ran g.O.Stream.reading g.O.Stream.view g.G.Parser.does g.E.HasKind.form _
    c.in_ok-output.output _
    (Err (g.E.HasKind.kind c.in-Err.error)) _ _
    (search rules depth 1) c.in-Err.ensures.ran) refl (search rules depth 1)
