use Rattle.std.proofs.Common.{◌+◌, ◌*◌, ◌-◌, ◌^◌, arith, refl}
use Rattle.stream_bits.specs.BitReading.{bits_reading}
use Rattle.winnow_bits.specs.InParts.{reads_below, reads_both}
use Rattle.winnow_bits.proofs.InPartsLemmas.{reads_within}
use Rattle.winnow_bits.proofs.bits.fields.take_of_two_bytes.Goals as goal

pub push_bits-requires-clause-below : goal.push_bits-requires-clause-below
push_bits-requires-clause-below g c =
    reads_below (bits_reading g.I.Stream.reading) (c.args.count - (8 - c.args.input.now.1)) _
    c.in-Some.bits _ c.in-Some.ensures

pub push_bits-requires-clause-fits : goal.push_bits-requires-clause-fits
push_bits-requires-clause-fits g c =
    let here = 8 - c.args.input.now.1 in
    let missing = c.args.count - here in
    let first = g.O.BitOutput.number c.take_within_byte-number.result in
    let n = first * 2 ^ missing + c.in-Some.bits in
    let both = reads_both (bits_reading g.I.Stream.reading) here missing (here + missing) _ first _
    c.in-Some.bits _ n c.take_within_byte-number.ensures c.in-Some.ensures refl refl in
    reads_within (bits_reading g.I.Stream.reading) (here + missing) g.O.BitOutput.WIDTH _ n _ both
    (omega (arith, c.requires.fits, c.requires.across))

pub returns-in-Some : goal.returns-in-Some
returns-in-Some g c =
    let here = 8 - c.args.input.now.1 in
    let missing = c.args.count - here in
    let first = g.O.BitOutput.number c.take_within_byte-number.result in
    reads_both (bits_reading g.I.Stream.reading) here missing c.args.count _ first _ c.in-Some.bits
    _ (g.O.BitOutput.number c.push_bits.result) c.take_within_byte-number.ensures
    c.in-Some.ensures (omega (arith, c.requires.across)) c.push_bits.ensures
