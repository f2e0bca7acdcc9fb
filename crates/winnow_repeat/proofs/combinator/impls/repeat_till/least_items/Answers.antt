use Rattle.std.proofs.Common.{rules, arith, refl, ap, ◌<◌, ◌+◌, Some}
use Rattle.winnow_repeat.specs.Called.{collected_more, collected_none, every_called, every_failed}
use Rattle.winnow_repeat.specs.Called.{failed_ran, full_ran, wanting_ran}
use Rattle.winnow_repeat.proofs.combinator.impls.repeat_till.least_items.Goals as goal

pub items-init : goal.items-init
items-init g c = (0, collected_none, omega arith, c.requires)

pub returns-in_err-output-clause-ran : goal.returns-in_err-output-clause-ran
returns-in_err-output-clause-ran g c =
    let inv = c.items.invariant in
    let less : inv.0 < c.args.least = omega (arith, inv.2, c.items-test.true) in
    let item = every_failed g.I.Stream.reading g.P.Parser.does g.E.HasKind.form _ _
    (g.P.Parser.state c.parse_item.new.parser) _ (g.E.HasKind.kind c.in_err-output.field-0.0)
    c.in_err-output.ensures.ran in
    failed_ran inv.1 less _ _ (g.E.HasKind.kind c.in_err-output.field-0.0) _
    (search rules depth 1) (λ is. less) item

pub returns-in-Err-clause-ran : goal.returns-in-Err-clause-ran
returns-in-Err-clause-ran g c =
    let inv = c.items.invariant in
    let item = every_called g.I.Stream.reading g.P.Parser.does g.E.HasKind.form _ _ _ _ _
    c.in_ok-output.ensures.ran in
    wanting_ran inv.1 (omega (arith, inv.2, c.items-test.true)) _ _ _ item (search rules depth 1) _
    c.no_memory.ensures

pub returns-clause-ran : goal.returns-clause-ran
returns-clause-ran g c =
    let inv = c.items.invariant in
    full_ran inv.1 (ap Some (omega (arith, inv.2, c.items-test.false)))

pub items-preserved : goal.items-preserved
items-preserved g c =
    let inv = c.items.invariant in
    let item = every_called g.I.Stream.reading g.P.Parser.does g.E.HasKind.form _ _ _ _ _
    c.in_ok-output.ensures.ran in (
      inv.0 + 1,
      collected_more inv.1 (omega (arith, inv.2, c.items-test.true)) _ _ _ item _ _
          (search rules depth 1, refl),
      omega (arith, inv.2, c.items-test.true),
      c.in_ok-output.ensures.again,
    )
