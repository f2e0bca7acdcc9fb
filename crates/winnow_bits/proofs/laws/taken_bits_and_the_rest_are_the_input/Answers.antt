use Rattle.stream_bits.specs.BitReading.{bits_reading}
use Rattle.winnow_bits.specs.BitTake.Inversion.{bit_take_ok}
use Rattle.winnow_bits.proofs.laws.taken_bits_and_the_rest_are_the_input.Goals as goal

pub returns : goal.returns
returns g c =
    bit_take_ok g.O.BitOutput.number g.O.BitOutput.WIDTH (bits_reading g.I.Stream.reading)
    g.E.HasKind.form
