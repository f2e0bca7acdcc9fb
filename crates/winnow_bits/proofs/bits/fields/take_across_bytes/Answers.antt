use Rattle.std.proofs.Common.{◌+◌, ◌*◌, ◌-◌, ◌^◌, ◌∙◌, arith, refl}
use Rattle.stream_bits.specs.BitInput.{readable_says}
use Rattle.stream_bits.specs.BitReading.{bits_reading}
use Rattle.winnow_bits.specs.InParts.{reads_below, reads_both, reads_fewer}
use Rattle.winnow_bits.proofs.InPartsLemmas.{reads_as_many, reads_to, reads_within}
use Rattle.winnow_bits.proofs.bits.fields.take_across_bytes.Goals as goal

pub loop-missing-init : goal.loop-missing-init
loop-missing-init g c =
    let i = g.I.Stream.view c.args.input.now.0 in
    let from = c.args.input.now.1 in
    let here = 8 - from in
    let j = g.I.Stream.view c.take_within_byte-number.new.input.0 in
    let to = c.take_within_byte-number.new.input.1 in
    let number = g.O.BitOutput.number c.take_within_byte-number.result in
    let reads = c.take_within_byte-number.ensures in
    let inside = (readable_says i.left.tokens from c.requires.possible).inside in
    let fewer = reads_fewer (bits_reading g.I.Stream.reading) here _ number _ reads in
    let at = reads_to g.I.Stream.reading here i j from to number inside reads in
    record {
      some = omega arith;
      whole = omega (arith, at, inside);
      reads = reads_as_many (bits_reading g.I.Stream.reading) here
          (c.args.count - (c.args.count - here)) _ number _ reads
          (omega (arith, c.requires.across));
      possible = reads.passes.possible ∙ c.requires.possible;
      there = omega (arith, fewer, c.requires.there);
    }

pub push_bits-number-requires-clause-fits : goal.push_bits-number-requires-clause-fits
push_bits-number-requires-clause-fits g c =
    let missing = c.loop-missing.missing in
    let before = g.O.BitOutput.number c.loop-missing.number in
    let both = reads_both (bits_reading g.I.Stream.reading) (c.args.count - missing) 8
    (c.args.count - missing + 8) _ before _ c.in-Some.bits _ (before * 2 ^ 8 + c.in-Some.bits)
    c.loop-missing.invariant.reads c.in-Some.ensures refl refl in
    reads_within (bits_reading g.I.Stream.reading) (c.args.count - missing + 8) g.O.BitOutput.WIDTH
    _ (before * 2 ^ 8 + c.in-Some.bits) _ both
    (omega (arith, c.requires.fits, c.loop-missing.invariant.some))

pub loop-missing-preserved : goal.loop-missing-preserved
loop-missing-preserved g c =
    let i = g.I.Stream.view c.loop-missing.input.0 in
    let from = c.loop-missing.input.1 in
    let j = g.I.Stream.view c.next_of_byte.new.self.0 in
    let to = c.next_of_byte.new.self.1 in
    let missing = c.loop-missing.missing in
    let before = g.O.BitOutput.number c.loop-missing.number in
    let reads = c.in-Some.ensures in
    let whole = c.loop-missing.invariant.whole in
    let fewer = reads_fewer (bits_reading g.I.Stream.reading) 8 _ c.in-Some.bits _ reads in
    let at = reads_to g.I.Stream.reading 8 i j from to c.in-Some.bits (omega (arith, whole)) reads
    in
    record {
      some = omega (arith, c.loop-missing.invariant.some);
      whole = omega (arith, at, whole);
      reads = reads_both (bits_reading g.I.Stream.reading) (c.args.count - missing) 8
          (c.args.count - (missing - 8)) _ before _ c.in-Some.bits _
          (g.O.BitOutput.number c.push_bits-number.result) c.loop-missing.invariant.reads reads
          (omega (arith, c.loop-missing.invariant.some, c.loop-missing-test.true))
          c.push_bits-number.ensures;
      possible = reads.passes.possible ∙ c.loop-missing.invariant.possible;
      there = omega (arith, fewer, c.loop-missing.invariant.there);
    }

pub push_bits-requires-clause-below : goal.push_bits-requires-clause-below
push_bits-requires-clause-below g c =
    reads_below (bits_reading g.I.Stream.reading) c.loop-missing.missing _
    c.in-Some-next_of_byte.bits _ c.in-Some-next_of_byte.ensures

pub push_bits-requires-clause-fits : goal.push_bits-requires-clause-fits
push_bits-requires-clause-fits g c =
    let missing = c.loop-missing.missing in
    let before = g.O.BitOutput.number c.loop-missing.number in
    let n = before * 2 ^ missing + c.in-Some-next_of_byte.bits in
    let both = reads_both (bits_reading g.I.Stream.reading) (c.args.count - missing) missing
    (c.args.count - missing + missing) _ before _ c.in-Some-next_of_byte.bits _ n
    c.loop-missing.invariant.reads c.in-Some-next_of_byte.ensures refl refl in
    reads_within (bits_reading g.I.Stream.reading) (c.args.count - missing + missing)
    g.O.BitOutput.WIDTH _ n _ both
    (omega (arith, c.requires.fits, c.loop-missing.invariant.some))

pub returns-in-Some-next_of_byte : goal.returns-in-Some-next_of_byte
returns-in-Some-next_of_byte g c =
    let missing = c.loop-missing.missing in
    reads_both (bits_reading g.I.Stream.reading) (c.args.count - missing) missing c.args.count _
    (g.O.BitOutput.number c.loop-missing.number) _ c.in-Some-next_of_byte.bits _
    (g.O.BitOutput.number c.push_bits.result) c.loop-missing.invariant.reads
    c.in-Some-next_of_byte.ensures (omega (arith, c.loop-missing.invariant.some))
    c.push_bits.ensures
