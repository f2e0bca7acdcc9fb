use Rattle.std.proofs.Common.{arith, refl}
use Rattle.exported.proofs.Entries.{front_long, length_more, of_number, shown_more}
use Rattle.exported.proofs.pairs.entries.place_entries.Goals as goal

pub overflow_add-middle : goal.overflow_add-middle
overflow_add-middle c =
    let found = c.args.found.now in
    let number = c.loop-number.number in
    omega (
      arith,
      c.requires.bytes,
      c.loop-number.invariant.ends,
      front_long found number (of_number found number) c.loop-number-test.true refl,
    )

pub overflow_add-offset : goal.overflow_add-offset
overflow_add-offset c =
    let found = c.args.found.now in
    let number = c.loop-number.number in
    omega (
      arith,
      c.requires.bytes,
      c.loop-number.invariant.ends,
      front_long found number (of_number found number) c.loop-number-test.true refl,
    )

pub loop-number-preserved : goal.loop-number-preserved
loop-number-preserved c =
    let found = c.args.found.now in
    let number = c.loop-number.number in
    let within = c.loop-number-test.true in
    record {
      ends = omega (
        arith,
        c.loop-number.invariant.ends,
        length_more found number (of_number found number) within refl,
      );
      shown = shown_more found c.loop-number.entries number (of_number found number) _ (omega (
        arith,
        within,
        c.loop-number.auto.entries,
        c.requires.room,
      )) within refl c.loop-number.invariant.ends refl refl refl c.loop-number.invariant.shown;
    }
