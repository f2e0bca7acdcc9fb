use Rattle.std.proofs.Common.{arith, refl}
use Rattle.exported.proofs.Entries.{front_long, length_more, of_number}
use Rattle.exported.proofs.pairs.entries.bytes_of.Goals as goal

pub overflow_add-total : goal.overflow_add-total
overflow_add-total c =
    let found = c.args.found.now in
    let number = c.loop-number.number in
    omega (
      arith,
      c.requires,
      front_long found number (of_number found number) c.loop-number-test.true refl,
    )

pub overflow_add-total-in-loop-number : goal.overflow_add-total-in-loop-number
overflow_add-total-in-loop-number c =
    let found = c.args.found.now in
    let number = c.loop-number.number in
    omega (
      arith,
      c.requires,
      c.loop-number.invariant,
      front_long found number (of_number found number) c.loop-number-test.true refl,
    )

pub loop-number-preserved : goal.loop-number-preserved
loop-number-preserved c =
    let found = c.args.found.now in
    let number = c.loop-number.number in
    omega (
      arith,
      c.loop-number.invariant,
      length_more found number (of_number found number) c.loop-number-test.true refl,
    )
