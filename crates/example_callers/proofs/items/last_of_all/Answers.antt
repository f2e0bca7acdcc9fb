use Rattle.std.proofs.Common.{[], ◌∷◌, ◌++◌, refl}
use Rattle.winnow.specs.Does.{Ran}
use Rattle.winnow.specs.Form.{assert_kind}
use Rattle.winnow.specs.Fault.{IsFaultAt}
use Rattle.winnow.specs.ParseIter.{parse_iter_state}
use Rattle.winnow.specs.ParseIter.Inversion.{parse_iter_all, parse_iter_more, parse_iter_refused}
use Rattle.example_callers.proofs.items.last_of_all.Goals as goal

pub loop-item-preserved : goal.loop-item-preserved
loop-item-preserved g c =
    let inv = c.loop-item.invariant in
    let step = c.in-Some.ensures.steps in
    record {
      items = (
        inv.items.0 ++ c.in-Ok.output ∷ [],
        parse_iter_more (Ran g.I.Stream.reading g.P.Parser.does g.E.HasKind.form)
            (assert_kind g.E.HasKind.form)
            (IsFaultAt g.I.Stream.view g.I.Stream.reading.units g.E.ParserError.inner_kind)
            (g.P.Parser.state c.args.parser.now) (g.I.Stream.view c.args.input) inv.items.0
            (parse_iter_state g.P.Parser.state g.I.Stream.view g.I.Stream.seen c.loop-item.items)
            c.in-Some.item _ inv.items.1 step.0 c.in-Ok.output c.in-Ok.is,
        (inv.items.0, refl),
      );
      callable = step.1;
      reached = step.2;
    }

pub returns-in-Err-clause-refused : goal.returns-in-Err-clause-refused
returns-in-Err-clause-refused g c =
    let inv = c.loop-item.invariant in (
      inv.items.0,
      parse_iter_refused (Ran g.I.Stream.reading g.P.Parser.does g.E.HasKind.form)
          (assert_kind g.E.HasKind.form)
          (IsFaultAt g.I.Stream.view g.I.Stream.reading.units g.E.ParserError.inner_kind)
          (g.P.Parser.state c.args.parser.now) (g.I.Stream.view c.args.input) inv.items.0
          (parse_iter_state g.P.Parser.state g.I.Stream.view g.I.Stream.seen c.loop-item.items)
          c.in-Some.item _ inv.items.1 c.in-Some.ensures.steps.0 c.in-Err.fault c.in-Err.is,
    )

pub returns-clause-last : goal.returns-clause-last
returns-clause-last g c =
    let inv = c.loop-item.invariant in
    let all = parse_iter_all (Ran g.I.Stream.reading g.P.Parser.does g.E.HasKind.form)
    (assert_kind g.E.HasKind.form)
    (IsFaultAt g.I.Stream.view g.I.Stream.reading.units g.E.ParserError.inner_kind)
    (g.P.Parser.state c.args.parser.now) (g.I.Stream.view c.args.input) inv.items.0
    (parse_iter_state g.P.Parser.state g.I.Stream.view g.I.Stream.seen c.loop-item.items)
    _ inv.items.1 c.in_default.ensures.steps.0 in
    (inv.items.0, _, all.0, all.1, all.2, inv.items.2)
