use Rattle.std.proofs.Common.{arith, ap}
use Rattle.streams.proofs.locating.LocatingSliceUpdateSlice.update_slice.Goals as goal

pub returns : goal.returns
returns g c =
    let reading = g.I.Stream.reading in
    let made = c.update_slice-input.ensures in
    record {
      shown = made.shown;
      bits = made.bits;
      passed = λ p leads. omega (
        arith,
        ap (λ x. x.passed) leads,
        c.eof_offset-units.ensures,
        c.saturating_sub.ensures,
      );
      possible = made.possible;
      status = made.status;
    }
