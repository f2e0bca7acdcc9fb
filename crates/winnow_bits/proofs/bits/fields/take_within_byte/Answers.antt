use Rattle.std.proofs.Common.{◌≡◌, ◌+◌, ◌*◌, ◌^◌, ◌<◌, arith, sym, subst}
use Rattle.stream_bits.specs.BitReading.{bits_reading}
use Rattle.winnow_bits.specs.InParts.{reads_below}
use Rattle.winnow_bits.proofs.InPartsLemmas.{reads_within}
use Rattle.winnow_bits.proofs.bits.fields.take_within_byte.Goals as goal

pub push_bits-requires-clause-below : goal.push_bits-requires-clause-below
push_bits-requires-clause-below g c =
    reads_below (bits_reading g.I.Stream.reading) c.args.count _ c.in-Some.bits _ c.in-Some.ensures

pub push_bits-requires-clause-fits : goal.push_bits-requires-clause-fits
push_bits-requires-clause-fits g c =
    let zero = g.met.O.BitOutput.starts_at_zero c.default-number.result c.default-number.ensures in
    let small = reads_within (bits_reading g.I.Stream.reading) c.args.count g.O.BitOutput.WIDTH _
    c.in-Some.bits _ c.in-Some.ensures c.requires.fits in
    let none : 0 * 2 ^ c.args.count + c.in-Some.bits ≡ c.in-Some.bits = omega arith in
    subst (λ k. k * 2 ^ c.args.count + c.in-Some.bits < 2 ^ g.O.BitOutput.WIDTH) (sym zero)
    (subst (λ n. n < 2 ^ g.O.BitOutput.WIDTH) (sym none) small)
