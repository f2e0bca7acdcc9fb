use Rattle.std.proofs.Common.{rules, Err, refl}
use Rattle.parser_definitions.specs.Errors.{AnyErrorDoes}
use Rattle.parser_definitions.specs.MapErr.{InForm, err_into_becomes}
use Rattle.winnow_core.specs.Called.{alone_ran, turned_ran}
use Rattle.winnow_core.proofs.combinator.impls.err_into.ErrIntoParser.parse_next.Goals as goal

pub returns-in-Ok-clause-ran : goal.returns-in-Ok-clause-ran
returns-in-Ok-clause-ran g c =
    let ran = c.in-Ok.ensures.ran in
    (ran.0, ran.1, ran.2, (_, (_, ran.3, refl), refl))

pub returns-in-Err-clause-ran : goal.returns-in-Err-clause-ran
returns-in-Err-clause-ran g c =
    let becomes = err_into_becomes g.E.HasKind.kind g.E2.HasKind.kind g.E.Into.converts in
    let does = InForm g.E.HasKind.form g.F.Parser.does in
    alone_ran g.I.Stream.reading (AnyErrorDoes becomes does) g.E2.HasKind.form _ _
    (Err (g.E2.HasKind.kind c.into.result)) _ _
    (turned_ran g.I.Stream.reading becomes does g.E2.HasKind.form _ _ _ _
    (g.E.HasKind.kind c.in-Err.error) _ c.in-Err.ensures.ran
    (c.in-Err.error, c.into.result, refl, search rules depth 1, refl))
