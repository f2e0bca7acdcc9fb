use Rattle.std.proofs.Common.{◌∙◌, ◌++◌, ◌≤◌, ap, arith, length, refl}
use Rattle.exported.proofs.Entries.{copied_more, front_long, length_more, of_number}
use Rattle.exported.proofs.pairs.entries.copy_entries.Goals as goal

pub overflow_add-end : goal.overflow_add-end
overflow_add-end c =
    let found = c.args.found.now in
    let number = c.loop-number.number in
    omega (
      arith,
      c.requires.bytes,
      front_long found number (of_number found number) c.loop-number-test.true refl,
    )

pub overflow_add-end-in-loop-number : goal.overflow_add-end-in-loop-number
overflow_add-end-in-loop-number c =
    let found = c.args.found.now in
    let number = c.loop-number.number in
    omega (
      arith,
      c.requires.bytes,
      c.loop-number.invariant.ends,
      front_long found number (of_number found number) c.loop-number-test.true refl,
    )

pub slice_bounds-copy_entry-end : goal.slice_bounds-copy_entry-end
slice_bounds-copy_entry-end c =
    let found = c.args.found.now in
    let number = c.loop-number.number in
    omega (
      arith,
      c.requires.room,
      c.loop-number.auto.text,
      c.loop-number.invariant.ends,
      front_long found number (of_number found number) c.loop-number-test.true refl,
    )

pub loop-number-preserved : goal.loop-number-preserved
loop-number-preserved c =
    let found = c.args.found.now in
    let number = c.loop-number.number in
    let entry = of_number found number in
    let within = c.loop-number-test.true in
    let front = front_long found number entry within refl in
    let room : c.loop-number.end ≤ length c.loop-number.text = omega (
      arith,
      c.requires.room,
      c.loop-number.auto.text,
      c.loop-number.invariant.ends,
      front,
    ) in record {
      ends = omega (
        arith,
        c.loop-number.invariant.ends,
        length_more found number entry within refl,
      );
      copied = copied_more found c.loop-number.text c.copy_entry.new.text number c.loop-number.end
          _ _ entry within room c.loop-number.invariant.copied (c.copy_entry.ensures
          ∙ ap (λ l. l ++ c.as_bytes-in-loop-number.result.now) c.as_bytes.ensures.value
          ∙ ap (λ l. entry.0.now ++ l) c.as_bytes-in-loop-number.ensures.value) refl refl;
    }
