use Rattle.std.proofs.Common.{of_calls, rules, refl, arith, ◌+◌}
use Rattle.winnow_separated.specs.Link.{LinkDoes}
use Rattle.winnow_separated.proofs.LinkLemmas.{output_is}
use Rattle.winnow_repeat.specs.Called.{collected_more, collected_none, enough_ran}
use Rattle.winnow_repeat.specs.Called.{failed_ran, stuck_ran}
use Rattle.winnow_separated.proofs.combinator.impls.separated_foldl1.join_left.Goals as goal

pub links-init : goal.links-init
links-init g c = (
  0,
  collected_none,
  c.requires.parser,
  c.requires.separator,
  c.requires.op,
)

pub returns-in-Ok-None-clause-ran : goal.returns-in-Ok-None-clause-ran
returns-in-Ok-None-clause-ran g c =
    let none = output_is g.I.Stream.reading (LinkDoes g.P.Parser.does g.S.Parser.does)
    g.E.HasKind.form _ _ _ _ _ _ c.in-Ok-None.field-0-is c.in-Ok-None.ensures.ran in
    stuck_ran c.links.invariant.1 tt _ _ none _ c.assert.ensures

pub returns-then-is_backtrack-clause-ran : goal.returns-then-is_backtrack-clause-ran
returns-then-is_backtrack-clause-ran g c =
    enough_ran c.links.invariant.1 tt _ _ (omega arith) _ (search rules depth 1)
    c.in-Err.ensures.ran _ (search rules depth 1)

pub returns-in-Err-clause-ran : goal.returns-in-Err-clause-ran
returns-in-Err-clause-ran g c =
    failed_ran c.links.invariant.1 tt _ _ _ _ refl (λ e. search rules depth 1) c.in-Err.ensures.ran

pub links-preserved : goal.links-preserved
links-preserved g c =
    let link = output_is g.I.Stream.reading (LinkDoes g.P.Parser.does g.S.Parser.does)
    g.E.HasKind.form _ _ _ _ _ _ c.in-Ok-Some.field-0-is c.in-Ok-Some.ensures.ran in (
      c.links.invariant.0 + 1,
      collected_more c.links.invariant.1 tt _ _ _ link _ _ (_, search rules depth 1, refl),
      c.in-Ok-Some.ensures.again.0,
      c.in-Ok-Some.ensures.again.1,
      search of_calls,
    )
