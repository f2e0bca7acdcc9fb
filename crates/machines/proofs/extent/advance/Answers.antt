use Rattle.std.proofs.Common.{◌-◌, ap, arith, drop, length, length-drop, length-take, refl}
use Rattle.machines.proofs.Extents.{fewer, kept, led, told}
use Rattle.machines.proofs.extent.advance.Goals as goal

pub overflow_sub-passed : goal.overflow_sub-passed
overflow_sub-passed g c =
    let (low, high, is, size) = c.in-Some.ensures.lookup.0 in omega (
      arith,
      fewer (g.M.Machine.grammar c.args.machine.now) c.pass-state.ensures,
      ap (λ l. length l) is,
      length-take (length c.args.bytes.now - c.args.extent.now.passed)
          (drop c.args.extent.now.passed c.args.bytes.now),
      length-drop c.args.extent.now.passed c.args.bytes.now,
    )

pub returns-in-Some-clause-scanned : goal.returns-in-Some-clause-scanned
returns-in-Some-clause-scanned g c here =
    let (low, high, is, size) = c.in-Some.ensures.lookup.0 in
    told (g.M.Machine.grammar c.args.machine.now) c.args.extent.now _ c.args.bytes.now
    c.report.result (g.met.M.Machine.lawful c.args.machine.now c.requires) here
    (led (g.M.Machine.grammar c.args.machine.now) c.args.extent.now c.args.bytes.now
    c.in-Some.fresh.now c.pass-state.result.1.now c.pass-state.result.0
    (length c.args.bytes.now - length c.pass-state.result.1.now) c.report.result is low
    c.pass-state.ensures refl c.report.ensures)

pub returns-in-Some-clause-kept : goal.returns-in-Some-clause-kept
returns-in-Some-clause-kept g c here =
    let (low, high, is, size) = c.in-Some.ensures.lookup.0 in
    kept (g.M.Machine.grammar c.args.machine.now) c.args.extent.now _ c.args.bytes.now
    c.report.result here
    (led (g.M.Machine.grammar c.args.machine.now) c.args.extent.now c.args.bytes.now
    c.in-Some.fresh.now c.pass-state.result.1.now c.pass-state.result.0
    (length c.args.bytes.now - length c.pass-state.result.1.now) c.report.result is low
    c.pass-state.ensures refl c.report.ensures)
