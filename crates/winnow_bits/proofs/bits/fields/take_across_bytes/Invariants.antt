use Rattle.std.proofs.Common.{◌≡◌, ◌-◌, ◌≤◌, length, true}
use Rattle.stream_bits.specs.BitInput.{bits_from, bits_input, can_be_read}
use Rattle.stream_bits.specs.BitReading.{bits_reading}
use Rattle.stream_bits.specs.Within.{ReadsNumber}
use Rattle.winnow_bits.proofs.bits.fields.take_across_bytes.Given as goal

abbrev pub invariant-loop-missing : goal.invariant-loop-missing
invariant-loop-missing g l = record {
  some : l.missing ≤ l.count;
  whole : l.input.1 ≡ 0;
  reads : ReadsNumber (bits_reading g.I.Stream.reading) (l.count - l.missing)
      (bits_input (g.I.Stream.view l.fn.input.0) l.fn.input.1) (g.O.BitOutput.number l.number)
      (bits_input (g.I.Stream.view l.input.0) l.input.1);
  possible : can_be_read (g.I.Stream.view l.input.0).left.tokens l.input.1 ≡ true;
  there : l.missing ≤ length (bits_from (g.I.Stream.view l.input.0).left.tokens l.input.1);
}

abbrev pub decreases-loop-missing : goal.decreases-loop-missing
decreases-loop-missing g l = l.missing
