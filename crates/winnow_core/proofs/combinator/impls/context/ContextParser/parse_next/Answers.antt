use Rattle.std.proofs.Common.{rules, inl, inr, refl}
use Rattle.parser_definitions.specs.MapErr.{context_becomes, context_keeps, kept_memory}
use Rattle.winnow_core.specs.Called.{kept_turned_ran}
use Rattle.winnow_core.specs.Context.{becomes_told, is_told}
use Rattle.winnow_core.proofs.combinator.impls.context.ContextParser.parse_next.Goals as goal

pub returns-then-is_incomplete-clause-ran : goal.returns-then-is_incomplete-clause-ran
returns-then-is_incomplete-clause-ran g c =
    let becomes = context_becomes g.C.Clone.is_clone g.C.Clone.is_infallible in
    kept_turned_ran g.I.Stream.reading becomes g.F.Parser.does g.E.HasKind.form _ _ _ _
    (g.E.HasKind.kind c.in-Err.error) _ c.in-Err.ensures.ran
    (refl, inl (search rules depth 1, refl))
    (kept_memory (context_keeps g.C.Clone.is_clone g.C.Clone.is_infallible _))

pub returns-in-Ok-clone-clause-ran : goal.returns-in-Ok-clone-clause-ran
returns-in-Ok-clone-clause-ran g c =
    let becomes = context_becomes g.C.Clone.is_clone g.C.Clone.is_infallible in
    kept_turned_ran g.I.Stream.reading becomes g.F.Parser.does g.E.HasKind.form _ _ _ _
    (g.E.HasKind.kind c.in-Err.error) _ c.in-Err.ensures.ran
    (becomes_told g.C.Clone.is_clone g.C.Clone.is_infallible _ _ c.in-Ok-clone.context _ _
    c.in-Ok-clone.ensures.cases (is_told _ _ _ _ c.add_context.ensures.kept))
    (kept_memory (context_keeps g.C.Clone.is_clone g.C.Clone.is_infallible _))

pub returns-clause-ran : goal.returns-clause-ran
returns-clause-ran g c =
    let becomes = context_becomes g.C.Clone.is_clone g.C.Clone.is_infallible in
    kept_turned_ran g.I.Stream.reading becomes g.F.Parser.does g.E.HasKind.form _ _ _ _
    (g.E.HasKind.kind c.in-Err.error) _ c.in-Err.ensures.ran
    (refl, inr (inr (search rules depth 1, search rules depth 1, search rules depth 1)))
    (kept_memory (context_keeps g.C.Clone.is_clone g.C.Clone.is_infallible _))
