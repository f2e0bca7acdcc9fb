use Rattle.std.proofs.Common.{arith}
use Rattle.winnow_repeat.proofs.FillLemmas.{filled_more, filled_none, filled_ran, unfilled_ran}
use Rattle.winnow_repeat.proofs.combinator.impls.fill.fill_each.Goals as goal

pub loop-k-init : goal.loop-k-init
loop-k-init g c = record {
  filled = filled_none g.I.Stream.reading g.P.Parser.does g.E.HasKind.form c.args.buffer.now
      (g.P.Parser.state c.args.parser.now) (g.I.Stream.view c.args.input.now);
  callable = c.requires;
}

pub loop-k-preserved : goal.loop-k-preserved
loop-k-preserved g c = record {
  filled = λ name. filled_more g.I.Stream.reading g.P.Parser.does g.E.HasKind.form _ _ _ _ _ _ _
      c.loop-k.invariant.filled name (omega arith) _ _ c.in-Ok.output c.in-Ok.ensures.ran;
  callable = c.in-Ok.ensures.again;
}

pub returns-in-Err-clause-ran : goal.returns-in-Err-clause-ran
returns-in-Err-clause-ran g c name =
    unfilled_ran g.I.Stream.reading g.P.Parser.does g.E.HasKind.form _ _ _ _ _ _ _
    c.loop-k.invariant.filled name (omega arith) _ _ _ c.in-Err.ensures.ran

pub returns-clause-ran : goal.returns-clause-ran
returns-clause-ran g c name =
    filled_ran g.I.Stream.reading g.P.Parser.does g.E.HasKind.form _ _ _ _ _ _ _
    c.loop-k.invariant.filled name (omega arith)
