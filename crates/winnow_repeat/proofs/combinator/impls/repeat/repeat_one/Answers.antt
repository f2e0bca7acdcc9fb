use Rattle.std.proofs.Common.{rules, refl}
use Rattle.parser_definitions.specs.Folding.{gathering}
use Rattle.parser_definitions.specs.Then.Steps.{instead, same}
use Rattle.winnow_repeat.specs.Called.{items_follow}
use Rattle.winnow_repeat.proofs.combinator.impls.repeat.repeat_one.Goals as goal

pub returns-in-Ok-accumulate-clause-ran : goal.returns-in-Ok-accumulate-clause-ran
returns-in-Ok-accumulate-clause-ran g c =
    items_follow g.I.Stream.reading same instead (gathering g.C.Accumulate.accumulator)
    g.P.Parser.does g.E.HasKind.form _ _ _ _ _ c.in_ok-first.ensures.ran
    c.in-Ok.all _ (search rules depth 1, refl) c.accumulate.new.self _
    (search rules depth 1, refl) _ _ _ c.repeat_items.ensures.ran
