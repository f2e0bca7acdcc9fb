use Rattle.std.proofs.Common.{rules, refl}
use Rattle.std.proofs.lemmas.Fn.{FoldsTo-push}
use Rattle.parser_definitions.specs.MapErr.{contexts_become, contexts_keep, kept_memory}
use Rattle.parser_definitions.specs.MapErr.{with_context}
use Rattle.winnow_core.specs.Called.{kept_turned_ran}
use Rattle.winnow_core.specs.Context.{is_told}
use Rattle.winnow_core.proofs.combinator.impls.context_with.ContextWithParser.parse_next.Goals as goal

pub loop-context-preserved : goal.loop-context-preserved
loop-context-preserved g c = (
  search rules,
  search rules,
  FoldsTo-push (λ old context new. with_context (g.E.AddContext.context_gives context) old new)
      _ _ _
      _ _
      c.loop-context.invariant.2
      (is_told _ _ _ _ c.add_context-error.ensures.kept),
)

pub returns-clause-ran : goal.returns-clause-ran
returns-clause-ran g c =
    let yielded = rw c.into_iter-context-iterator.ensures.into_iter_gives at
    c.loop-context.yielded_by in
    kept_turned_ran g.I.Stream.reading
    (contexts_become (λ f j. g.F.Fn.post f tt j) g.FI.Iterator.next_gives)
    g.P.Parser.does g.E.HasKind.form _ _ _ _ (g.E.HasKind.kind c.in-Err.error) _
    c.in-Err.ensures.ran (
      refl,
      (
        _,
        c.loop-context.yielded,
        c.context-context-items.ensures,
        (_, (_, yielded, rw c.in-None.is at c.next.ensures.steps)),
        c.loop-context.invariant.2,
      ),
    ) (kept_memory (contexts_keep (λ f j. g.F.Fn.post f tt j) g.FI.Iterator.next_gives _))
