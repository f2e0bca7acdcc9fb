use Rattle.std.proofs.Common.{rules, refl, None}
use Rattle.stream_sets.specs.Range.{from_to}
use Rattle.parser_definitions.specs.Closures.{folding, folding_in}
use Rattle.parser_definitions.specs.Fold.{closures, with_closures}
use Rattle.parser_definitions.specs.Then.Steps.{first, with_first}
use Rattle.winnow_repeat.specs.Called.{items_follow}
use Rattle.winnow_repeat.proofs.FoldLemmas.{fold_items_ran}
use Rattle.winnow_repeat.proofs.combinator.impls.fold.fold_one.Goals as goal

pub returns-clause-ran : goal.returns-clause-ran
returns-clause-ran g c range =
    let items = fold_items_ran (goal.G-step g) (goal.H-step g) (λ h r o k. ⊥) (λ h r o. ⊥)
    g.I.Stream.reading g.P.Parser.does g.E.HasKind.form range _ _ _ _ _ _ _ _ (from_to 0 None) _
    c.fold_items.ensures.ran in
    items_follow g.I.Stream.reading first with_first
    (folding_in closures with_closures (folding (goal.G-step g) (goal.H-step g)))
    g.P.Parser.does g.E.HasKind.form _ _ _ _ _ c.in_ok-first.ensures.ran
    c.init-value.result _
    ((c.init-value.new.self, c.args.op.now.closure), (search rules depth 1, refl), refl)
    c.closure-value.result _
    ((c.init-value.new.self, c.closure-value.new.self), (search rules depth 1, refl), refl) _ _ _
    items
