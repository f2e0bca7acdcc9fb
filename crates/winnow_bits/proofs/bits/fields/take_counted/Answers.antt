use Rattle.std.proofs.Common.{refl, inl, arith}
use Rattle.streams.specs.Input.{passes_end}
use Rattle.stream_bits.specs.BitInput.{bits_input}
use Rattle.stream_bits.specs.BitReading.{bits_reading}
use Rattle.parser_definitions.specs.Left.{left_of}
use Rattle.winnow_core.specs.Leaves.{passed_of}
use Rattle.winnow_bits.proofs.InPartsLemmas.{reads_none}
use Rattle.winnow_bits.proofs.bits.fields.take_counted.Goals as goal

pub returns-then-count-eq0 : goal.returns-then-count-eq0
returns-then-count-eq0 g c =
    let i = bits_input (g.I.Stream.view c.args.input.now.0) c.args.input.now.1 in
    let none = reads_none (bits_reading g.I.Stream.reading) c.args.count i
    (g.O.BitOutput.number c.default.result) c.if-count-eq0.true
    (g.met.O.BitOutput.starts_at_zero c.default.result c.default.ensures) in (
      passes_end none.passes,
      refl,
      refl,
      inl (
        c.default.result,
        left_of i,
        (
          omega (arith, c.if-count-eq0.true),
          inl c.if-count-eq0.true,
          none.bits,
          none.as_many,
          none.number,
          passed_of none.passes,
        ),
        refl,
      ),
    )
