use Rattle.std.proofs.Common.{◌≡◌}
use Rattle.std.specs.List.{All}
use Rattle.winnow_comb.proofs.ChoiceLemmas.{Earlier}
use Rattle.winnow_comb.proofs.combinator.impls.alt.slices.choose.Given as goal

abbrev pub invariant-loop-k : goal.invariant-loop-k
invariant-loop-k g l = record {
  earlier : Earlier g.I.Stream.reading g.P.Parser.does g.E.HasKind.form g.P.Parser.state
      l.fn.branches l.branches (g.I.Stream.view l.fn.input) (g.I.Stream.view l.input) l.k;
  callable : All g.P.Parser.can_parse l.branches;
  starts : g.I.Stream.seen l.start ≡ (g.I.Stream.view l.input).left;
}
