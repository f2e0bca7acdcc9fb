use Rattle.winnow_repeat.proofs.FillLemmas.{Filled}
use Rattle.winnow_repeat.proofs.combinator.impls.fill.fill_each.Given as goal

abbrev pub invariant-loop-k : goal.invariant-loop-k
invariant-loop-k g l = record {
  filled : Filled g.I.Stream.reading g.P.Parser.does g.E.HasKind.form l.fn.buffer
      (g.P.Parser.state l.fn.parser) (g.I.Stream.view l.fn.input) l.buffer l.k
      (g.P.Parser.state l.parser) (g.I.Stream.view l.input);
  callable : g.P.Parser.can_parse l.parser;
}
