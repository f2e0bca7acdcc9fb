use Rattle.std.specs.Iterator.{IsFinite}
use Rattle.std.specs.List.{FoldsTo}
use Rattle.parser_definitions.specs.MapErr.{with_context}
use Rattle.winnow_core.proofs.combinator.impls.context_with.ContextWithParser.parse_next.Given as goal

-- the iterator ends, and the error has been told the contexts so far
abbrev pub invariant-loop-context : goal.invariant-loop-context
invariant-loop-context g l =
    g.FI.Iterator.can_next l.context-iterator
    × IsFinite (g.FI.Iterator.remaining l.context-iterator)
    × FoldsTo (λ old context new. with_context (g.E.AddContext.context_gives context) old new)
    (g.E.HasKind.kind l.initial.error) l.yielded (g.E.HasKind.kind l.error)
