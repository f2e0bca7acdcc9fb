use Rattle.std.proofs.Common.{◌≡◌, ◌<◌, ◌-◌, length, rules, arith, refl, sym, subst, ap, Err}
use Rattle.std.proofs.lemmas.List.Elements.{All-set}
use Rattle.winnow_comb.proofs.ChoiceLemmas.{Earlier, answered, chose_none, earlier_more}
use Rattle.winnow_comb.proofs.ChoiceLemmas.{earlier_none}
use Rattle.winnow_core.specs.Elements.{length-zero}
use Rattle.winnow_comb.proofs.combinator.impls.alt.slices.choose.Goals as goal

pub returns-then-is_empty-clause-ran : goal.returns-then-is_empty-clause-ran
returns-then-is_empty-clause-ran g c =
    let none : length c.args.branches.now ≡ 0 = search rules depth 1 in
    chose_none g.I.Stream.reading g.P.Parser.does g.E.HasKind.form g.P.Parser.state
    c.args.branches.now (g.I.Stream.view c.args.input.now) _ (length-zero _ none)
    (ap Err c.assert.ensures)

pub loop-k-init : goal.loop-k-init
loop-k-init g c = record {
  earlier = earlier_none g.I.Stream.reading g.P.Parser.does g.E.HasKind.form g.P.Parser.state
      c.args.branches.now (g.I.Stream.view c.args.input.now);
  callable = c.requires;
  starts = c.checkpoint-start.ensures;
}

pub returns-in-Ok-clause-ran : goal.returns-in-Ok-clause-ran
returns-in-Ok-clause-ran g c =
    answered g.I.Stream.reading g.P.Parser.does g.E.HasKind.form g.P.Parser.state
    c.args.branches.now c.loop-k.branches (g.I.Stream.view c.args.input.now)
    (g.I.Stream.view c.loop-k.input) c.loop-k.k _ c.index-branches-k.result
    c.attempt.new.branch c.loop-k.invariant.earlier (omega arith) refl _ _
    c.in-Ok.ensures.ran.0 (λ e. absurd (c.in-Ok.ensures.ran.1 e))

pub loop-k-preserved : goal.loop-k-preserved
loop-k-preserved g c =
    let ran = c.in-Err.ensures.ran in
    record {
      earlier = earlier_more g.I.Stream.reading g.P.Parser.does g.E.HasKind.form
          g.P.Parser.state c.args.branches.now c.loop-k.branches
          (g.I.Stream.view c.args.input.now) (g.I.Stream.view c.loop-k.input) c.loop-k.k _
          c.index-branches-k.result c.attempt.new.branch c.loop-k.invariant.earlier
          (omega arith) refl (g.I.Stream.seen c.checkpoint-start.result) ran.0
          (g.I.Stream.view c.attempt.new.input) (omega arith) c.loop-k.invariant.starts ran.1
          ran.2;
      callable = All-set g.P.Parser.can_parse c.loop-k.branches c.loop-k.k c.attempt.new.branch
          c.in-Err.ensures.again c.loop-k.invariant.callable;
      starts = sym (ap (λ x. x.left) ran.2);
    }

pub returns-clause-ran : goal.returns-clause-ran
returns-clause-ran g c =
    let some : 0 < length c.args.branches.now = search rules depth 1 in
    let end : c.loop-k.k ≡ length c.args.branches.now - 1 = omega arith in
    let earlier = subst
    (λ k. Earlier g.I.Stream.reading g.P.Parser.does g.E.HasKind.form g.P.Parser.state
    c.args.branches.now c.loop-k.branches (g.I.Stream.view c.args.input.now)
    (g.I.Stream.view c.loop-k.input) k) end c.loop-k.invariant.earlier in
    answered g.I.Stream.reading g.P.Parser.does g.E.HasKind.form g.P.Parser.state
    c.args.branches.now c.loop-k.branches (g.I.Stream.view c.args.input.now)
    (g.I.Stream.view c.loop-k.input) (length c.args.branches.now - 1) _
    c.index-branches-last.result c.attempt_last.new.branch earlier (omega arith) refl _ _
    c.attempt_last.ensures.ran (λ e. omega arith)
