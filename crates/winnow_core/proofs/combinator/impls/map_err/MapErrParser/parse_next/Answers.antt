use Rattle.std.proofs.Common.{rules, refl}
use Rattle.parser_definitions.specs.MapErr.{InForm, map_err_becomes}
use Rattle.winnow_core.specs.Called.{turned_ran}
use Rattle.winnow_core.proofs.combinator.impls.map_err.MapErrParser.parse_next.Goals as goal

pub returns-in-Err-clause-ran : goal.returns-in-Err-clause-ran
returns-in-Err-clause-ran g c =
    turned_ran g.I.Stream.reading
    (map_err_becomes g.E.HasKind.kind g.E2.HasKind.kind (goal.G-step g))
    (InForm g.E.HasKind.form g.F.Parser.does) g.E2.HasKind.form _ _ _ _
    (g.E.HasKind.kind c.in-Err.error) _ c.in-Err.ensures.ran
    (c.in-Err.error, _, refl, search rules depth 1, refl)
